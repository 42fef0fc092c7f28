use Rattle.std.proofs.Common.{◌≡◌, ◌++◌, List, map, length, refl, sym, ap, ◌∙◌}
use Rattle.std.specs.Arc.{arc_value}
use Rattle.std.proofs.lemmas.List.{length-map}
use Rattle.saw_messages.specs.TxShapes.{TxShape}
use Rattle.saw_rules.specs.OnChainRules.{rules_in, txs_in}
use Rattle.saw_rules.specs.Courses.{count_for}
use Rattle.saw_rules.proofs.Standing.{fault_is}
use Rattle.saw_rules.proofs.onchain.OnChainRules.fault_in.Goals as goal

pub returns-in-None : goal.returns-in-None
returns-in-None c = λ m signer before batch looked are.
    let self = c.args.self.now in
    let stands = looked.stands in
    let txs = map arc_value c.args.txs.now in
    let told = rw (c.as_slice.ensures, c.deref.ensures.value, c.as_str.ensures) at c.rule_fault.ensures in
    let many = c.len.ensures ∙ self.txs.ok.0 ∙ sym (length-map self.txs.items arc_value) ∙ ap length stands.txs in
    let counts = looked.counts ∙ ap (λ (txs : List TxShape). map (count_for (txs_in before ++ txs)) (rules_in m)) are
    ∙ ap (map (count_for (txs_in before ++ txs))) (sym stands.rules) in
    rw are (fault_is self.families _ self.rules _ self.signer signer (txs_in before) txs c.rule_fault.result stands.families
    stands.rules stands.signer (sym c.in_ok-fault.ensures ∙ c.in-None.is) (told (txs_in before) counts many))
