use Rattle.std.proofs.Common.{map, sym, ap, ◌∙◌}
use Rattle.std.specs.Arc.{arc_value}
use Rattle.saw_messages.specs.TxShapes.{BatchShape}
use Rattle.saw_rules.proofs.Standing.{leaves}
use Rattle.saw_rules.proofs.onchain.OnChainRulesBlockPolicy.pass.Goals as goal

pub returns : goal.returns
returns c =
    let shown = sym (ap (λ (one : BatchShape). one.txs) c.batch.view_is) ∙ sym (ap (map arc_value) c.as_slice.ensures) in
    leaves c.add.result _ _ (λ all m signer before looked. all m signer before c.args.batch.now looked shown) c.add.ensures
