use Rattle.std.proofs.Common.{◌≡◌, ◌++◌, take}
use Rattle.saw_plan.specs.BatchShapes.{shapes_of}
use Rattle.saw_plan.proofs.precedence.add_all.Given as goal

abbrev pub invariant-loop-tx : goal.invariant-loop-tx
invariant-loop-tx l = shapes_of l.txs ≡ shapes_of l.fn.txs ++ shapes_of (take l.tx-index l.more)
