use Rattle.std.proofs.Common.{◌≡◌, take}
use Rattle.saw_plan.specs.BatchShapes.{shapes_of}
use Rattle.saw_crew.proofs.alike.same_txs.Given as goal

abbrev pub invariant-loop-i : goal.invariant-loop-i
invariant-loop-i l = shapes_of (take l.i l.some) ≡ shapes_of (take l.i l.others)
