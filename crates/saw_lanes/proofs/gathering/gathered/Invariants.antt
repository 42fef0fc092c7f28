-- The loop of gathered.
use Rattle.std.proofs.Common.{take}
use Rattle.saw_lanes.proofs.gathering.gathered.Given as goal
use Rattle.saw_lanes.proofs.Merge.{Gathers}

-- what was taken so far, and what is left
abbrev pub invariant-loop-lane : goal.invariant-loop-lane
invariant-loop-lane g l = Gathers l.fn.parts.items (take l.lane-index l.lanes) l.made.items l.rests.items
