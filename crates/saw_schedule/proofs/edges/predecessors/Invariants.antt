use Rattle.saw_plan.specs.BatchShapes.{shapes_of}
use Rattle.saw_predtree.specs.Places.{tree_of}
use Rattle.saw_schedule.proofs.TreeEdges.{AreAdded}
use Rattle.saw_schedule.proofs.edges.predecessors.Given as goal

abbrev pub invariant-loop-k : goal.invariant-loop-k
invariant-loop-k l = AreAdded (shapes_of l.txs) l.named (tree_of l.tree) l.from.items l.to.items l.k
