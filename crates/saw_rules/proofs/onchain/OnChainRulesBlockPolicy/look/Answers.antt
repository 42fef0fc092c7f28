use Rattle.std.proofs.Common.{◌≡◌, None, map, sym, ap, ◌∙◌}
use Rattle.std.specs.Arc.{arc_value}
use Rattle.saw_messages.specs.TxShapes.{BatchShape}
use Rattle.saw_rules.proofs.Standing.{leaves, leaves_if}
use Rattle.saw_rules.proofs.onchain.OnChainRulesBlockPolicy.look.Goals as goal

pub returns-clause-fault : goal.returns-clause-fault
returns-clause-fault g c = λ signer before stands.
    let shown = sym (ap (λ (one : BatchShape). one.txs) c.batch.view_is) ∙ sym (ap (map arc_value) c.as_slice.ensures) in
    c.fault_of.ensures.fault _ signer before c.args.batch.now stands shown

pub returns-clause-stays : goal.returns-clause-stays
returns-clause-stays g c = λ signer before stands.
    let shown = sym (ap (λ (one : BatchShape). one.txs) c.batch.view_is) ∙ sym (ap (map arc_value) c.as_slice.ensures) in
    leaves c.fault_of.result _ _ (λ looked. looked.stands) (c.fault_of.ensures.looked _ signer before c.args.batch.now stands shown)

pub returns-clause-looked : goal.returns-clause-looked
returns-clause-looked g c = λ signer before stands.
    let shown = sym (ap (λ (one : BatchShape). one.txs) c.batch.view_is) ∙ sym (ap (map arc_value) c.as_slice.ensures) in
    leaves_if c.fault_of.result (λ found. found ≡ None) _ (c.fault_of.ensures.looked _ signer before c.args.batch.now stands shown)
