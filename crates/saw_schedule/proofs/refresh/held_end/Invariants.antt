use Rattle.std.proofs.Common.{◌≡◌, ◌≤◌, [], drop, filter, length}
use Rattle.saw_schedule.specs.Shown.{is_held_at}
use Rattle.saw_schedule.proofs.refresh.held_end.Given as goal

-- none of those behind is held
abbrev pub invariant-loop-end : goal.invariant-loop-end
invariant-loop-end l = (l.end ≤ length l.lefts) × (filter (is_held_at l.steps l.slots) (drop l.end l.lefts) ≡ [])

abbrev pub decreases-loop-end : goal.decreases-loop-end
decreases-loop-end l = l.end
