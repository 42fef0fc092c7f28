use Rattle.saw_node.proofs.Rising.{none_rises}
use Rattle.saw_node.proofs.node.Node.leaf.Goals as goal

pub invariant_of-result : goal.invariant_of-result
invariant_of-result c = none_rises
