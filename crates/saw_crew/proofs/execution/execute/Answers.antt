use Rattle.std.proofs.Common.{List, [], IfOk, sym, ap, ap₂, subst, ◌∙◌}
use Rattle.std.specs.Arc.{arc_value}
use Rattle.saw_context.specs.Possible.{MayComeOfAll}
use Rattle.saw_plan.specs.BatchShapes.{txs_of}
use Rattle.saw_plan.specs.declared.plan.Plan.{Plan}
use Rattle.saw_schedule.specs.declared.results.Results.{Results}
use Rattle.saw_station.proofs.Finished.{if_ok}
use Rattle.saw_station.specs.Serving.{processors_at}
use Rattle.saw_messages.specs.TxShapes.{BatchShape}
use Rattle.saw_station.specs.declared.offer.Offer.{Offer}
use Rattle.saw_crew.specs.Desks.{offers_at}
use Rattle.saw_crew.specs.Offered.{are_offered}
use Rattle.saw_crew.proofs.Leaving.{keep_all}
use Rattle.saw_crew.proofs.Results.{fit-all}
use Rattle.saw_crew.proofs.Unoffered.{all_come, first_offers}
use Rattle.saw_crew.proofs.execution.execute.Goals as goal

pub returns-in_err-is_tangled-clause-desks : goal.returns-in_err-is_tangled-clause-desks
returns-in_err-is_tangled-clause-desks g c = keep_all g.R.Station.faults g.R.Station.offered c.args.desks.now

pub returns-in_err-run_built_in-clause-desks : goal.returns-in_err-run_built_in-clause-desks
returns-in_err-run_built_in-clause-desks g c = keep_all g.R.Station.faults g.R.Station.offered c.args.desks.now

pub returns-then-not-are_offered-clause-desks : goal.returns-then-not-are_offered-clause-desks
returns-then-not-are_offered-clause-desks g c = keep_all g.R.Station.faults g.R.Station.offered c.args.desks.now

pub returns-clause-whole : goal.returns-clause-whole
returns-clause-whole g c =
    let processors = processors_at g.R.Station.next g.R.Station.tells (offers_at c.args.desks.now) in
    let m = g.B.Base.entry c.args.base.now in
    let batches = txs_of (arc_value c.args.plan).batches in
    if_ok (λ (results : Results). MayComeOfAll processors m batches results.batches) _
    (λ results comes. fit-all processors [] m batches results.batches comes) c.execute_together.result c.execute_together.ensures.results

pub returns-then-threads-lt2-clause-whole : goal.returns-then-threads-lt2-clause-whole
returns-then-threads-lt2-clause-whole g c =
    let processors = processors_at g.R.Station.next g.R.Station.tells (offers_at c.args.desks.now) in
    let m = g.B.Base.entry c.args.base.now in
    let batches = txs_of (arc_value c.args.plan).batches in
    if_ok (λ (results : Results). MayComeOfAll processors m batches results.batches) _
    (λ results comes. fit-all processors [] m batches results.batches comes) c.execute_alone.result (subst (λ (plan : Plan). IfOk c.execute_alone.result (λ results. MayComeOfAll processors m (txs_of plan.batches) results.batches)) c.deref-then-threads-lt2.ensures c.execute_alone.ensures.results)

pub returns-then-not-are_offered-clause-results : goal.returns-then-not-are_offered-clause-results
returns-then-not-are_offered-clause-results g c =
    let desks = c.args.desks.now in
    let shown = c.as_slice-batches.ensures ∙ ap (λ (plan : Plan). plan.batches) c.deref.ensures in
    let offers = c.offers.ensures ∙ first_offers desks c.index-desks-0.result c.requires.some in
    let none = ap₂ (λ (offers : List Offer) (batches : List BatchShape). are_offered offers (txs_of batches)) (sym offers) (sym shown)
    ∙ sym c.are_offered.ensures ∙ c.if-not-are_offered.true in
    all_come g.R.Station.next g.R.Station.tells (offers_at desks) (g.B.Base.entry c.args.base.now) (txs_of (arc_value c.args.plan).batches) _ none
    (rw shown at c.in_ok-run_built_in.ensures.results)
