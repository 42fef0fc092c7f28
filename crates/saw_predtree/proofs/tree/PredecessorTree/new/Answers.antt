use Rattle.std.proofs.Common.{sym, ◌∙◌}
use Rattle.saw_predtree.proofs.Beginning.{begins}
use Rattle.saw_predtree.proofs.tree.PredecessorTree.new.Goals as goal

pub returns-clause-empty : goal.returns-clause-empty
returns-clause-empty c =
    begins c.new.result c.in_ok-from_elem.field-0.items c.new-2.result.items c.new.ensures.empty (sym c.in_ok-from_elem.field-0.ok.0 ∙ c.in_ok-from_elem.ensures.len)
    c.new-2.ensures.items
