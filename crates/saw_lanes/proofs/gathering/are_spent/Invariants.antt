-- The loop of are_spent.
use Rattle.std.proofs.Common.{take}
use Rattle.saw_lanes.proofs.gathering.are_spent.Given as goal
use Rattle.saw_lanes.specs.Rests.{AreSpent}

-- nothing is left of the parts so far
abbrev pub invariant-loop-rest : goal.invariant-loop-rest
invariant-loop-rest g l = AreSpent (take l.rest-index l.rests)
