use Rattle.std.proofs.Common.{List, [], sym, ap, ◌∙◌}
use Rattle.saw_crew.proofs.Leaving.{keep_all}
use Rattle.saw_crew.proofs.Unoffered.{first_offers}
use Rattle.saw_crew.specs.Desks.{Failed, offers_at}
use Rattle.saw_crew.specs.Offered.{are_offered}
use Rattle.saw_plan.specs.BatchShapes.{txs_of}
use Rattle.saw_rules.specs.Policies.{policy_by}
use Rattle.saw_station.specs.Serving.{processors_at}
use Rattle.saw_station.specs.declared.offer.Offer.{Offer}
use Rattle.saw_journal.proofs.Passing.{ran_unoffered, without_peer}
use Rattle.saw_journal.proofs.ran.run_over.Goals as goal

pub returns-then-not-are_offered-clause-ran : goal.returns-then-not-are_offered-clause-ran
returns-then-not-are_offered-clause-ran g c = λ there knows.
    let m = g.B.Base.entry c.args.base.now in
    let desks = c.args.desks.now in
    let peer = Failed g.R.Station.faults desks desks in
    let batches = c.args.batches.now in
    let policy = policy_by g.P.BlockPolicy.fault g.P.BlockPolicy.end_fault in
    let signer = c.args.signer.now in
    let offers = c.offers.ensures ∙ first_offers desks c.index-desks-0.result c.requires.some in
    let none = ap (λ (offers : List Offer). are_offered offers (txs_of batches)) (sym offers) ∙ sym c.are_offered.ensures ∙ c.if-not-are_offered.true in
    ran_unoffered g.R.Station.next g.R.Station.tells (offers_at desks) peer policy m signer there batches none c.run_shared.result
    (without_peer (processors_at g.R.Station.next g.R.Station.tells []) peer policy m signer there batches c.run_shared.result
    (c.run_shared.ensures there knows))

pub returns-then-not-are_offered-clause-desks : goal.returns-then-not-are_offered-clause-desks
returns-then-not-are_offered-clause-desks g c = keep_all g.R.Station.faults g.R.Station.offered c.args.desks.now
