use Rattle.std.proofs.Common.{◌≡◌, ◌++◌}
use Rattle.std.specs.Iterator.Adapters.{zip_first, zip_second}
use Rattle.std.specs.Slice.Iter.{iter_rest}
use Rattle.saw_journal.specs.Judgement.{batch_records}
use Rattle.saw_journal.proofs.results.records_here.Given as goal

abbrev pub invariant-loop-batch : goal.invariant-loop-batch
invariant-loop-batch l =
    l.made.items ++ batch_records (iter_rest (zip_first l.batch-iterator)) (iter_rest (zip_second l.batch-iterator))
    ≡ batch_records l.batches l.results
