use Rattle.std.proofs.Common.{length, sym, ap, ◌∙◌}
use Rattle.std.specs.Arc.{arc_value}
use Rattle.std.proofs.lemmas.List.{length-map}
use Rattle.saw_messages.specs.TxShapes.{BatchShape}
use Rattle.saw_schedule.proofs.Layouts.{starts-more}
use Rattle.saw_schedule.proofs.layout.starts_of.Goals as goal

pub loop-batch-preserved : goal.loop-batch-preserved
loop-batch-preserved c =
    starts-more c.args.batches.now c.loop-batch.batch-index c.batch-item.result c.loop-batch-test.true c.batch-item.is c.len.result
    (c.len.ensures ∙ (sym (length-map c.batch.inside.txs arc_value) ∙ ap (λ (batch : BatchShape). length batch.txs) c.batch.view_is))
    _ _ _ (c.len-start.ensures ∙ c.loop-batch.starts.ok.0) c.loop-batch.invariant c.in_ok-add_times.ensures
