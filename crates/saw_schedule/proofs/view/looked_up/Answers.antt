use Rattle.saw_schedule.specs.Shown.{shown_at}
use Rattle.saw_schedule.proofs.LookingUp.{looked-none}
use Rattle.saw_schedule.proofs.view.looked_up.Goals as goal

pub loop-text-init : goal.loop-text-init
loop-text-init c = looked-none (shown_at c.args.steps.now c.args.slots.now) _ c.nothing-view.ensures.layers c.nothing-view.ensures.inputs
