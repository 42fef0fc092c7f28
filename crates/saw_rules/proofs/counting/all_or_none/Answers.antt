use Rattle.std.proofs.Common.{sym, ◌∙◌}
use Rattle.std.specs.Arc.{arc_value}
use Rattle.saw_rules.proofs.Alike.{all_are, none_are}
use Rattle.saw_rules.proofs.counting.all_or_none.Goals as goal

pub returns-then-is_of : goal.returns-then-is_of
returns-then-is_of c =
    all_are arc_value c.args.family.now c.in-Some.first.now c.args.txs.now c.in-Some.ensures.value c.requires
    (rw c.deref.ensures at (sym c.is_of.ensures ∙ c.if-is_of.true))

pub returns-else-is_of : goal.returns-else-is_of
returns-else-is_of c =
    none_are arc_value c.args.family.now c.in-Some.first.now c.args.txs.now c.in-Some.ensures.value c.requires
    (rw c.deref.ensures at (sym c.is_of.ensures ∙ c.if-is_of.false))
