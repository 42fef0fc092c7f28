use Rattle.std.proofs.Common.{◌≡◌, subst, IfOk}
use Rattle.std.specs.Arc.{arc_value}
use Rattle.saw_schedule.specs.Histories.{History, order_in, sizes_in, state_of}
use Rattle.saw_schedule.specs.declared.results.Results.{Results}
use Rattle.saw_schedule.proofs.schedule.Schedule.into_results.Goals as goal

pub returns : goal.returns
returns c = subst (λ (h : History). IfOk c.gather_results.result (λ (results : Results). results.batches ≡ (state_of h).results)) c.self.view_is
    (c.gather_results.ensures (order_in (record { batches = (arc_value c.self.inside.plan).batches; steps = c.self.inside.steps.items })) (sizes_in (record { batches = (arc_value c.self.inside.plan).batches; steps = c.self.inside.steps.items })) (state_of (record { batches = (arc_value c.self.inside.plan).batches; steps = c.self.inside.steps.items })) c.self.invariant.slots_are)
