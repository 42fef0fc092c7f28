use Rattle.std.proofs.Common.{◌≡◌, take}
use Rattle.saw_plan.specs.BatchShapes.{shapes_of, txs_of}
use Rattle.saw_plan.specs.Precedence.{all_txs}
use Rattle.saw_plan.proofs.plan.Plan.transactions.Given as goal

abbrev pub invariant-loop-batch : goal.invariant-loop-batch
invariant-loop-batch l = shapes_of l.txs ≡ all_txs (txs_of (take l.batch-index l.batch-items))
