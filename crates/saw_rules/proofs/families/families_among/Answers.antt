use Rattle.std.proofs.Common.{sym, ◌∙◌}
use Rattle.std.proofs.lemmas.Result.{IfOk-weaker}
use Rattle.saw_rules.proofs.FamilyLists.{among_none, among_some}
use Rattle.saw_rules.proofs.families.families_among.Goals as goal

pub returns-then-is_empty : goal.returns-then-is_empty
returns-then-is_empty c = among_none c.args.elements.now (sym c.is_empty.ensures ∙ c.if-is_empty.true)

pub returns : goal.returns
returns c = IfOk-weaker c.families_in.result _ _ (λ families e. e ∙ among_some c.args.elements.now (sym c.is_empty.ensures ∙ c.if-is_empty.false))
    c.families_in.ensures
