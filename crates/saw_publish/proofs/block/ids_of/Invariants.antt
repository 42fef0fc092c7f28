use Rattle.std.proofs.Common.{◌≡◌, map, take}
use Rattle.saw_messages.specs.TxShapes.{BatchShape}
use Rattle.saw_publish.proofs.block.ids_of.Given as goal

abbrev pub invariant-loop-batch : goal.invariant-loop-batch
invariant-loop-batch l = l.ids ≡ map (λ (batch : BatchShape). batch.id) (take l.batch-index l.batches)
