use Rattle.std.proofs.Common.{◌≡◌, ◌++◌, take}
use Rattle.std.specs.List.{flat_map}
use Rattle.saw_queries.proofs.receipts.add_batches.Given as goal

abbrev pub invariant-loop-batch : goal.invariant-loop-batch
invariant-loop-batch l = l.made.items ≡ l.fn.made.items ++ flat_map (λ batch. batch.receipts) (take l.batch-index l.batches)
