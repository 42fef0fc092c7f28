use Rattle.std.proofs.Common.{map, take}
use Rattle.std.specs.List.{AllByRecursion}
use Rattle.saw_node.specs.Decoding.{IsChild}
use Rattle.saw_node.specs.Nodes.{pair_of}
use Rattle.saw_proofs.proofs.proving.show_children.Given as goal

abbrev pub invariant-loop-child : goal.invariant-loop-child
invariant-loop-child l = AllByRecursion IsChild (map pair_of (take l.child-index l.children))
