use Rattle.std.proofs.Common.{map, sym, ap, ◌∙◌}
use Rattle.std.specs.Arc.{arc_value}
use Rattle.saw_messages.specs.TxShapes.{BatchShape}
use Rattle.saw_rules.proofs.onchain.OnChainRulesBlockPolicy.judge.Goals as goal

pub returns : goal.returns
returns g c =
    let m = g.B.Base.entry c.args.parent.now in
    let signer = c.args.signer.now in
    let before = c.args.before.now in
    let families = rw c.address_of.ensures at c.get-families.ensures in
    let rules = rw c.address_of-2.ensures at c.get-rules.ensures in
    let shown = sym (ap (λ (one : BatchShape). one.txs) c.batch.view_is) ∙ sym (ap (map arc_value) c.as_slice.ensures) in
    c.fault_of.ensures.fault m signer before c.args.batch.now
    (c.in_ok-add_all.ensures m signer (c.in_ok-course.ensures m families rules)) shown
