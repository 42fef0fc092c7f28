use Rattle.std.proofs.Common.{ap, subst}
use Rattle.std.specs.Prelude.{unwrap_or}
use Rattle.saw_address.specs.Maps.{StateMap, no_entries}
use Rattle.saw_crew.specs.Desks.{Failed, offers_at}
use Rattle.saw_rules.specs.Policies.{policy_by}
use Rattle.saw_station.specs.Serving.{processors_at}
use Rattle.saw_journal.specs.Passing.{RanAs}
use Rattle.saw_journal.proofs.ran.run_all.Goals as goal

pub returns-clause-ran : goal.returns-clause-ran
returns-clause-ran g c = λ there knows.
    let processors = processors_at g.R.Station.next g.R.Station.tells (offers_at c.args.desks.now) in
    let peer = Failed g.R.Station.faults c.args.desks.now c.run_over.new.desks in
    let policy = policy_by g.P.BlockPolicy.fault g.P.BlockPolicy.end_fault in
    subst (λ (m : StateMap). RanAs processors peer policy m c.args.signer.now there c.args.batches.now c.run_over.result)
    (ap (λ found. unwrap_or found no_entries) c.in-Some.ensures.is) (c.run_over.ensures.ran there knows)
