use Rattle.std.proofs.Common.{◌≡◌, List, ap, subst, rules, ◌∙◌}
use Rattle.std.specs.Arc.{arc_value}
use Rattle.saw_context.specs.Outcome.{Processors}
use Rattle.saw_plan.specs.BatchShapes.{txs_of}
use Rattle.saw_plan.specs.declared.plan.Plan.{Plan}
use Rattle.saw_schedule.specs.Histories.{History, begun}
use Rattle.saw_station.proofs.Finished.{if_ok}
use Rattle.saw_station.specs.Serving.{processors_at}
use Rattle.saw_station.specs.declared.offer.Offer.{Offer}
use Rattle.saw_crew.specs.Stored.{AllSound, IsAsLent}
use Rattle.saw_crew.proofs.Endings.{fresh-alone, left-alone}
use Rattle.saw_crew.proofs.ending.left_by_workers.Goals as goal

pub returns-then-is_as_lent : goal.returns-then-is_as_lent
returns-then-is_as_lent g c =
    let at : List Offer → Processors = processors_at g.R.Station.next g.R.Station.tells in
    let old : History = c.into_parts-schedule.result.0 in
    let same : (arc_value c.into_parts-schedule.result.1).items ≡ c.args.offers.now = search rules in
    left-alone (at c.args.offers.now) (g.B.Base.entry c.args.base.now) (txs_of (arc_value c.args.plan.now).batches) old c.give_all_back.new.schedule
    (subst (λ (offers : List Offer). AllSound (at offers) old.steps) same c.into_parts-schedule.ensures)
    (subst (λ (plan : Plan). IsAsLent (g.B.Base.entry c.args.base.now) (txs_of plan.batches) old) c.deref-then-same_offers.ensures (c.is_as_lent.ensures c.if-is_as_lent.true))
    c.give_all_back.ensures.gave c.give_all_back.ensures.quiet

pub returns : goal.returns
returns g c =
    let processors : Processors = processors_at g.R.Station.next g.R.Station.tells c.args.offers.now in
    if_ok (λ (h : History). h ≡ begun (arc_value c.in_ok-clone.field-0)) _
    (λ h is. fresh-alone processors (g.B.Base.entry c.args.base.now) (arc_value c.args.plan.now) h (is ∙ ap begun c.in_ok-clone.ensures.cases))
    c.new.result c.new.ensures
