use Rattle.saw_node.proofs.Rising.{none_rises}
use Rattle.saw_node.proofs.node.Node.empty.Goals as goal

pub invariant_of-result : goal.invariant_of-result
invariant_of-result c = rw c.new.ensures.items none_rises
