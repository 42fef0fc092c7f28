use Rattle.std.proofs.Common.{take}
use Rattle.saw_schedule.specs.LookedUp.{IsLookedUp}
use Rattle.saw_schedule.specs.Shown.{shown_at}
use Rattle.saw_schedule.proofs.view.looked_up.Given as goal

abbrev pub invariant-loop-text : goal.invariant-loop-text
invariant-loop-text l = IsLookedUp (shown_at l.steps l.slots) (take l.text-index l.texts) l.view
