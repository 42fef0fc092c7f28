use Rattle.std.proofs.Common.{◌≡◌, ◌++◌}
use Rattle.std.specs.Iterator.Adapters.{zip_first, zip_second}
use Rattle.std.specs.Slice.Iter.{iter_rest}
use Rattle.saw_plan.specs.BatchShapes.{ids_of, shapes_of}
use Rattle.saw_receipts.specs.Receipts.{receipts}
use Rattle.saw_receipts.proofs.receipt.batch_receipts.Given as goal

abbrev pub invariant-loop-tx : goal.invariant-loop-tx
invariant-loop-tx l = l.made.items ++ receipts (ids_of (shapes_of (iter_rest (zip_first l.tx-iterator)))) (iter_rest (zip_second l.tx-iterator))
    ≡ receipts (ids_of l.batch.txs) l.outcomes
