use Rattle.std.proofs.Common.{◌≡◌, length, map, take}
use Rattle.saw_plan.specs.BatchShapes.{transactions_in, txs_of}
use Rattle.saw_schedule.specs.Layout.{ends_of}
use Rattle.saw_schedule.proofs.layout.ends_of.Given as goal

abbrev pub invariant-loop-batch : goal.invariant-loop-batch
invariant-loop-batch l = (l.end ≡ transactions_in (take l.batch-index l.batches)) × (l.ends.items ≡ ends_of 0 (map length (txs_of (take l.batch-index l.batches))))
