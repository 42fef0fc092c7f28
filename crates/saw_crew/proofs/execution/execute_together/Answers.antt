use Rattle.std.proofs.Common.{List, IfOk, get_or, subst}
use Rattle.std.specs.Arc.{arc_value}
use Rattle.saw_context.specs.Possible.{MayComeOfAll}
use Rattle.saw_plan.specs.BatchShapes.{txs_of}
use Rattle.saw_plan.specs.declared.plan.Plan.{Plan}
use Rattle.saw_station.specs.Serving.{processors_at}
use Rattle.saw_station.specs.declared.offer.Offer.{Offer}
use Rattle.saw_crew.proofs.Leaving.{first_failed, first_kept, first_offers, keep_all, keeps_places, keeps_same}
use Rattle.saw_crew.proofs.execution.execute_together.Goals as goal

pub returns-in_err-lent-clause-desks : goal.returns-in_err-lent-clause-desks
returns-in_err-lent-clause-desks g c = keep_all g.R.Station.faults g.R.Station.offered c.args.desks.now

pub returns-in_err-seats-clause-desks : goal.returns-in_err-seats-clause-desks
returns-in_err-seats-clause-desks g c = keep_all g.R.Station.faults g.R.Station.offered c.args.desks.now

pub returns-in_err-schedule-clause-desks : goal.returns-in_err-schedule-clause-desks
returns-in_err-schedule-clause-desks g c =
    let kept = keeps_places g.R.Station.faults g.R.Station.offered c.args.desks.now c.all_work.new.desks c.all_work.auto.desks c.all_work.ensures in
    let d = c.index-desks-0-2.result in
    first_kept g.R.Station.faults g.R.Station.offered c.args.desks.now c.all_work.new.desks d (get_or c.all_work.new.desks 0 d) c.requires.some kept
    (keeps_same g.R.Station.faults g.R.Station.offered (get_or c.all_work.new.desks 0 d))

pub returns-clause-results : goal.returns-clause-results
returns-clause-results g c =
    let kept = keeps_places g.R.Station.faults g.R.Station.offered c.args.desks.now c.all_work.new.desks c.all_work.auto.desks c.all_work.ensures in
    let offers = first_offers g.R.Station.faults g.R.Station.offered c.args.desks.now c.all_work.new.desks c.index-desks-0-2.result c.requires.some kept in
    subst
    (λ (offers : List Offer). IfOk c.run_alone.result (λ results.
    MayComeOfAll (processors_at g.R.Station.next g.R.Station.tells offers) (g.B.Base.entry c.args.base.now) (txs_of (arc_value c.args.plan.now).batches)
    results.batches))
    offers
    (subst
    (λ (plan : Plan). IfOk c.run_alone.result (λ results.
    MayComeOfAll (processors_at g.R.Station.next g.R.Station.tells (get_or c.all_work.new.desks 0 c.index-desks-0-2.result).offers) (g.B.Base.entry c.args.base.now) (txs_of plan.batches)
    results.batches))
    c.deref-3.ensures c.run_alone.ensures.results)

pub returns-clause-desks : goal.returns-clause-desks
returns-clause-desks g c =
    let kept = keeps_places g.R.Station.faults g.R.Station.offered c.args.desks.now c.all_work.new.desks c.all_work.auto.desks c.all_work.ensures in
    first_kept g.R.Station.faults g.R.Station.offered c.args.desks.now c.all_work.new.desks c.index-desks-0-2.result c.run_alone.new.desk c.requires.some kept c.run_alone.ensures.desk.keeps

pub returns-clause-cause : goal.returns-clause-cause
returns-clause-cause g c = λ failed.
    let kept = keeps_places g.R.Station.faults g.R.Station.offered c.args.desks.now c.all_work.new.desks c.all_work.auto.desks c.all_work.ensures in
    first_failed g.R.Station.faults g.R.Station.offered c.args.desks.now c.all_work.new.desks c.index-desks-0-2.result c.run_alone.new.desk c.requires.some kept (c.run_alone.ensures.desk.cause failed)
