use Rattle.std.proofs.Common.{None, sym, ◌∙◌, lit<}
use Rattle.std.proofs.lemmas.Str.Pattern.{strip_prefix_char}
use Rattle.saw_rules.proofs.Numerals.{without_minus}
use Rattle.saw_rules.proofs.rule.position_in.Goals as goal

pub returns-in-None : goal.returns-in-None
returns-in-None c = c.signed_in-in-None.ensures ∙ sym (without_minus c.args.text.now (strip_prefix_char 45 c.args.text.now None c.in-None.ensures.cases (lit< tt)))
