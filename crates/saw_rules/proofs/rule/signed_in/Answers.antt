use Rattle.std.proofs.Common.{◌∙◌}
use Rattle.saw_rules.proofs.Numerals.{has_room}
use Rattle.saw_rules.proofs.rule.signed_in.Goals as goal

pub returns-in-Some : goal.returns-in-Some
returns-in-Some c = c.ok.ensures.value ∙ has_room c.try_from.result c.args.text.now c.in-Some.n c.in-Some.ensures c.try_from.ensures
