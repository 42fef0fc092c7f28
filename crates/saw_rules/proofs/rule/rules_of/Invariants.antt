use Rattle.saw_rules.specs.RuleTexts.{rule_in}
use Rattle.saw_rules.proofs.EachOf.{Goes}
use Rattle.saw_rules.proofs.rule.rules_of.Given as goal

abbrev pub invariant-loop-part : goal.invariant-loop-part
invariant-loop-part l = Goes rule_in (λ part. part.now) l.rules l.part-index l.part-items
