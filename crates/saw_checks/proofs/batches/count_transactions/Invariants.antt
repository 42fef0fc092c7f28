use Rattle.std.proofs.Common.{◌≡◌, take}
use Rattle.saw_checks.specs.StructureFaults.{transactions_count}
use Rattle.saw_checks.proofs.batches.count_transactions.Given as goal

abbrev pub invariant-loop-batch : goal.invariant-loop-batch
invariant-loop-batch l = l.count ≡ transactions_count (take l.batch-index l.batches)
