use Rattle.std.proofs.Common.{map, take, sym, ap, ◌∙◌}
use Rattle.std.specs.Arc.{arc_value}
use Rattle.std.proofs.lemmas.List.{take_more}
use Rattle.saw_messages.specs.TxShapes.{BatchShape}
use Rattle.saw_rules.proofs.onchain.OnChainRules.add_all.Goals as goal

pub loop-batch-preserved : goal.loop-batch-preserved
loop-batch-preserved c = λ m signer begun.
    let batches = c.args.batches.now in
    let i = c.loop-batch.batch-index in
    let batch = c.batch-item.result in
    rw (take_more batches i batch c.loop-batch-test.true, ← c.batch-item.is) (c.in_ok-add_unjudged.ensures m signer (take i batches) batch
    (c.loop-batch.invariant m signer begun)
    (sym (ap (λ (one : BatchShape). one.txs) c.batch.view_is) ∙ sym (ap (map arc_value) c.as_slice.ensures)))
