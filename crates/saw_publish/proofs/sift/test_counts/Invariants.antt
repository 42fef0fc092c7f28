use Rattle.std.proofs.Common.{◌<◌, ◌^◌, ℕ, length, get_or}
use Rattle.saw_messages.specs.declared.batch.Batch.{Batch}
use Rattle.saw_publish.proofs.sift.test_counts.Given as goal

abbrev pub invariant-loop-batch : goal.invariant-loop-batch
invariant-loop-batch l = (k : ℕ) (d : Batch) → k < l.batch-index → length (get_or l.batches k d).transactions < 2 ^ 32
