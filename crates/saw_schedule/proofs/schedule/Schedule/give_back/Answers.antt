use Rattle.std.proofs.Common.{List, refl, sym, ap, subst, ◌∙◌, vec_capacity}
use Rattle.std.specs.Arc.{arc_value}
use Rattle.saw_schedule.specs.declared.step.Step.{Step}
use Rattle.saw_schedule.specs.Histories.{History, RunsIn, state_of, with_step}
use Rattle.saw_schedule.specs.declared.step.Step.TheVariants.{GiveBack}
use Rattle.saw_schedule.proofs.GivingBack.{given-back, task-so}
use Rattle.saw_schedule.proofs.ScheduleSteps.{runs-iff}
use Rattle.saw_schedule.proofs.schedule.Schedule.give_back.Goals as goal

pub returns-then-not-runs : goal.returns-then-not-runs
returns-then-not-runs c = (
  refl,
  λ r. c.if-not-runs.ensures.no refl ((runs-iff _ c.self.inside.txs c.self.inside.named c.self.inside.slots c.self.inside.lasts (vec_capacity c.self.inside.steps) c.self.invariant c.args.ticket).1
      (subst (λ (h : History). RunsIn (state_of h) c.args.ticket) (sym c.self.view_is) r)),
)

pub invariant_of-self : goal.invariant_of-self
invariant_of-self c =
    given-back _ c.self.inside.txs c.self.inside.named c.self.inside.slots c.self.inside.lasts (vec_capacity c.self.inside.steps) c.self.invariant c.args.ticket
    (c.if-not-runs.ensures.yes refl) _ c.add_step.new.steps.items (vec_capacity c.add_step.new.steps) c.back.ensures refl refl refl refl refl c.add_step.ensures.more c.add_step.ensures.room

pub returns : goal.returns
returns c = (
  ap (λ (steps : List Step). record { batches = (arc_value c.self.inside.plan).batches; steps = steps }) c.add_step.ensures.more
      ∙ ap (λ (h : History). with_step h (GiveBack c.args.ticket)) c.self.view_is,
  subst (λ (h : History). RunsIn (state_of h) c.args.ticket) c.self.view_is
      (task-so _ c.self.inside.txs c.self.inside.named c.self.inside.slots c.self.inside.lasts (vec_capacity c.self.inside.steps) c.self.invariant c.args.ticket (c.if-not-runs.ensures.yes refl)),
)
