-- The loop of rests_of.
use Rattle.std.proofs.Common.{◌≡◌, ◌++◌, length}
use Rattle.saw_lanes.proofs.gathering.rests_of.Given as goal

-- what was moved and behind it what is left are all
abbrev pub invariant-loop-part : goal.invariant-loop-part
invariant-loop-part g l = l.rests.items ++ l.left.items ≡ l.fn.parts.items

abbrev pub decreases-loop-part : goal.decreases-loop-part
decreases-loop-part g l = length l.left.items
