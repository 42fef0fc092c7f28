use Rattle.std.proofs.Common.{◌≡◌, take}
use Rattle.saw_plan.specs.BatchShapes.{txs_of}
use Rattle.saw_crew.proofs.alike.same_batches.Given as goal

abbrev pub invariant-loop-i : goal.invariant-loop-i
invariant-loop-i l = txs_of (take l.i l.some) ≡ txs_of (take l.i l.others)
