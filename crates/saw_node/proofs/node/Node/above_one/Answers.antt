use Rattle.saw_node.proofs.Rising.{one_rises}
use Rattle.saw_node.proofs.node.Node.above_one.Goals as goal

pub invariant_of-result : goal.invariant_of-result
invariant_of-result c = one_rises c.args.child.byte
