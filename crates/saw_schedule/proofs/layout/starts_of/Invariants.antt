use Rattle.std.proofs.Common.{◌≡◌, length, map, take}
use Rattle.saw_plan.specs.BatchShapes.{txs_of}
use Rattle.saw_schedule.specs.Layout.{starts_of}
use Rattle.saw_schedule.proofs.layout.starts_of.Given as goal

abbrev pub invariant-loop-batch : goal.invariant-loop-batch
invariant-loop-batch l = l.starts.items ≡ starts_of 0 (map length (txs_of (take l.batch-index l.batches)))
