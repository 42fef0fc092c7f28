use Rattle.saw_settings.specs.Values.{number_in}
use Rattle.saw_rules.proofs.EachOf.{Goes}
use Rattle.saw_rules.proofs.rule.numbers_in.Given as goal

abbrev pub invariant-loop-text : goal.invariant-loop-text
invariant-loop-text l = Goes number_in (λ text. text.now) l.numbers l.text-index l.texts
