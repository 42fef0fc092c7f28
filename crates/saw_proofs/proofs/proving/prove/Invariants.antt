use Rattle.std.proofs.Common.{◌≡◌, map, take}
use Rattle.std.specs.List.{AllByRecursion}
use Rattle.saw_node.specs.Nodes.{IsNode, encoding_of, shape_of}
use Rattle.saw_proofs.proofs.proving.prove.Given as goal

-- the nodes up to here are ones, and are encoded
abbrev pub invariant-loop-node : goal.invariant-loop-node
invariant-loop-node g l = (l.proof ≡ map encoding_of (map shape_of (take l.node-index l.node-items)))
    × AllByRecursion IsNode (map shape_of (take l.node-index l.node-items))
