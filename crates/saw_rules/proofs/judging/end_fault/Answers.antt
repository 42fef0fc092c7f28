use Rattle.std.proofs.Common.{rules, tests, ◌≡◌, Some, map, option_map, position, sym, ap, ◌∙◌}
use Rattle.std.specs.Arc.{arc_value}
use Rattle.std.proofs.lemmas.Iterator.{YieldsList-from_slice}
use Rattle.std.proofs.lemmas.Iterator.Search.{position_from_yields_List}
use Rattle.saw_checks.specs.declared.policy.PolicyFault.TheVariants as faults
use Rattle.saw_rules.specs.OnChainRules.{is_missed}
use Rattle.saw_rules.proofs.judging.end_fault.Goals as goal

pub returns-in_ok-small-in-Some : goal.returns-in_ok-small-in-Some
returns-in_ok-small-in-Some c =
    let found : c.position.result ≡ position (is_missed (map arc_value c.args.txs.now)) c.args.rules.now =
    position_from_yields_List (is_missed (map arc_value c.args.txs.now)) _ _ c.position.result c.position.ensures.ran
    (YieldsList-from_slice c.args.rules.now (cc)) (λ x b q k. search (rules, tests)) in
    ap (λ n. Some (faults.Rule n)) c.in_ok-small-in-Some.ensures ∙ ap (option_map faults.Rule) (sym c.in-Some.is ∙ found)

pub returns-in-None : goal.returns-in-None
returns-in-None c =
    let found : c.position.result ≡ position (is_missed (map arc_value c.args.txs.now)) c.args.rules.now =
    position_from_yields_List (is_missed (map arc_value c.args.txs.now)) _ _ c.position.result c.position.ensures.ran
    (YieldsList-from_slice c.args.rules.now (cc)) (λ x b q k. search (rules, tests)) in
    ap (option_map faults.Rule) (sym c.in-None.is ∙ found)
