use Rattle.std.proofs.Common.{sym}
use Rattle.saw_store.proofs.Alike.{same_nodes}
use Rattle.saw_store.proofs.store.is_same_node.Goals as goal

pub returns-then-is_same_value : goal.returns-then-is_same_value
returns-then-is_same_value c =
    same_nodes c.args.first.now c.args.second.now c.children.result.now c.children-then-is_same_value.result.now c.is_same_value.result c.eq.result
    c.children.ensures.same c.children-then-is_same_value.ensures.same (rw (c.value.ensures, c.value-2.ensures) at c.is_same_value.ensures)
    c.eq.ensures (sym c.if-is_same_value.true)
