use Rattle.std.proofs.Common.{◌++◌, ap, ap₂, ◌∙◌}
use Rattle.saw_messages.specs.TxShapes.{BatchShape}
use Rattle.saw_plan.specs.BatchShapes.{shapes_of}
use Rattle.saw_plan.proofs.Pairs.{all-more, count-done}
use Rattle.saw_plan.proofs.plan.Plan.transactions.Goals as goal

pub loop-batch-preserved : goal.loop-batch-preserved
loop-batch-preserved c =
    rw (all-more c.as_slice-batch-items.result.now c.loop-batch.batch-index c.batch-item.result c.loop-batch-test.true c.batch-item.is)
    (c.in_ok-add_all.ensures ∙ ap₂ ◌++◌ c.loop-batch.invariant (ap shapes_of c.as_slice.ensures ∙ ap (λ (batch : BatchShape). batch.txs) c.batch.view_is))

pub returns-clause-count : goal.returns-clause-count
returns-clause-count c = count-done c.args.self.now.batches c.as_slice-batch-items.result.now c.loop-batch.batch-index c.loop-batch.txs c.as_slice-batch-items.ensures c.loop-batch-test.false c.loop-batch.invariant
