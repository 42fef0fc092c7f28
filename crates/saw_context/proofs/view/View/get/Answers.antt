use Rattle.std.proofs.Common.{sym, ◌∙◌}
use Rattle.saw_context.proofs.Views.{get-covered, get-uncovered}
use Rattle.saw_context.proofs.view.View.get.Goals as goal

pub returns-then-is_one_covering : goal.returns-then-is_one_covering
returns-then-is_one_covering c =
    c.get.ensures
    ∙ sym (get-covered c.args.self.now c.deref.result.now c.args.at.now c.deref.ensures.value (sym c.is_one_covering.ensures ∙ c.if-is_one_covering.true))

pub returns-else-is_one_covering : goal.returns-else-is_one_covering
returns-else-is_one_covering c =
    sym (get-uncovered c.args.self.now c.deref.result.now c.args.at.now c.deref.ensures.value (sym c.is_one_covering.ensures ∙ c.if-is_one_covering.false))
