use Rattle.std.proofs.Common.{sym, ◌∙◌}
use Rattle.saw_schedule.specs.Shown.{shown_at}
use Rattle.saw_schedule.proofs.LookingUp.{shown-nothing}
use Rattle.saw_schedule.proofs.view.view_at.Goals as goal

pub returns-else-has_predecessors : goal.returns-else-has_predecessors
returns-else-has_predecessors c = λ at.
    shown-nothing (shown_at c.args.steps.now c.args.slots.now) c.args.texts.now c.nothing.result c.nothing.ensures.layers
    (λ q covers. c.requires.first (sym c.has_predecessors.ensures ∙ c.if-has_predecessors.false) q covers) at
