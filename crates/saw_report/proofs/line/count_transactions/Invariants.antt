use Rattle.std.proofs.Common.{◌≡◌, take, length}
use Rattle.std.specs.Prelude.{sum_by}
use Rattle.saw_report.proofs.line.count_transactions.Given as goal

abbrev pub invariant-loop-batch : goal.invariant-loop-batch
invariant-loop-batch l = l.count ≡ sum_by (λ batch. length batch.receipts) (take l.batch-index l.batches)
