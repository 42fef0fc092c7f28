use Rattle.std.proofs.Common.{length, sym, ap, ◌∙◌}
use Rattle.std.specs.Arc.{arc_value}
use Rattle.std.proofs.lemmas.List.{length-map}
use Rattle.saw_messages.specs.TxShapes.{BatchShape}
use Rattle.saw_schedule.proofs.Layouts.{ends-more}
use Rattle.saw_schedule.proofs.layout.ends_of.Goals as goal

pub loop-batch-preserved : goal.loop-batch-preserved
loop-batch-preserved c =
    ends-more c.args.batches.now c.loop-batch.batch-index c.batch-item.result c.loop-batch-test.true c.batch-item.is c.len-end.result
    (c.len-end.ensures ∙ (sym (length-map c.batch.inside.txs arc_value) ∙ ap (λ (batch : BatchShape). length batch.txs) c.batch.view_is))
    _ _ _ c.loop-batch.invariant.0 c.loop-batch.invariant.1 c.in_ok-push.ensures.items
