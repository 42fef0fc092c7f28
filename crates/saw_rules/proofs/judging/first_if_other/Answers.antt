use Rattle.std.proofs.Common.{sym, ◌∙◌}
use Rattle.std.specs.Arc.{arc_value}
use Rattle.saw_rules.proofs.Alike.{first_is_other, none_is_other}
use Rattle.saw_rules.proofs.judging.first_if_other.Goals as goal

pub returns-then-is_allowed : goal.returns-then-is_allowed
returns-then-is_allowed c =
    none_is_other arc_value c.args.families.now c.in-Some.first.now c.args.txs.now c.in-Some.ensures.value c.requires
    (rw c.deref.ensures at (sym c.is_allowed.ensures ∙ c.if-is_allowed.true))
