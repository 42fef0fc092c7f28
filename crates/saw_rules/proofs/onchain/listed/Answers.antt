use Rattle.std.proofs.Common.{option_and_then, option_copied, sym, ap, ◌∙◌}
use Rattle.std.proofs.lemmas.Result.{IfOk-weaker}
use Rattle.saw_rules.specs.RuleTexts.{rules_of}
use Rattle.saw_rules.specs.OnChainRules.{rules_key}
use Rattle.saw_rules.proofs.Standing.{setting_is}
use Rattle.saw_rules.proofs.onchain.listed.Goals as goal

pub returns-in-Some : goal.returns-in-Some
returns-in-Some c = λ m here.
    let set = sym (setting_is m rules_key (option_copied c.args.found) here) ∙ sym c.in_ok-text.ensures ∙ c.in-Some.is in
    IfOk-weaker c.rules_of.result _ _ (λ found e. e ∙ ap rules_of c.as_str.ensures ∙ sym (ap (option_and_then rules_of) set)) c.rules_of.ensures

pub returns-in-None : goal.returns-in-None
returns-in-None c = λ m here.
    let unset = sym (setting_is m rules_key (option_copied c.args.found) here) ∙ sym c.in_ok-text.ensures ∙ c.in-None.is in
    sym (ap (option_and_then rules_of) unset)
