use Rattle.std.proofs.Common.{◌^◌, length, arith}
use Rattle.saw_messages.specs.declared.batch.Batch.{Batch}
use Rattle.saw_publish.proofs.Taking.{less_more}
use Rattle.saw_publish.proofs.sift.test_counts.Goals as goal

pub loop-batch-preserved : goal.loop-batch-preserved
loop-batch-preserved c =
    less_more (λ (batch : Batch). length batch.transactions) (2 ^ 32) c.args.batches.now c.loop-batch.batch-index c.batch-item.result c.loop-batch-test.true
    c.batch-item.is (omega (arith, c.len.ensures, c.if-len.false)) c.loop-batch.invariant
