use Rattle.std.proofs.Common.{◌≡◌, ◌≤◌, drop, length, map}
use Rattle.saw_node.specs.Nodes.{shape_of}
use Rattle.saw_runs.specs.Runs.{hash_up, nodes_of_run}
use Rattle.saw_runs.proofs.paths.nodes_of.Given as goal

-- the nodes from here down are made, and the hash is that of the first
abbrev pub invariant-loop-at : goal.invariant-loop-at
invariant-loop-at g l = (l.at ≤ length l.path) × (l.hash ≡ hash_up g.H.NodeHasher.hash_of (drop l.at l.path) l.bottom)
    × (map shape_of l.nodes.items ≡ nodes_of_run g.H.NodeHasher.hash_of (drop l.at l.path) l.bottom)

abbrev pub decreases-loop-at : goal.decreases-loop-at
decreases-loop-at g l = l.at
