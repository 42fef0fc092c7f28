use Rattle.std.proofs.Common.{◌≡◌, ◌≤◌, drop, length, All}
use Rattle.saw_messages.proofs.sharing.last_run.Given as goal

-- all from here on are batches
abbrev pub invariant-loop-at : goal.invariant-loop-at
invariant-loop-at l = (l.at ≤ length l.found) × All (λ one. one.field ≡ 3) (drop l.at l.found)

abbrev pub decreases-loop-at : goal.decreases-loop-at
decreases-loop-at l = l.at
