use Rattle.std.proofs.Common.{◌≤◌, ◌-◌, map}
use Rattle.saw_node.specs.Nodes.{shape_of}
use Rattle.saw_runs.specs.Readings.{read_at}
use Rattle.saw_runs.proofs.OnPath.{Gathers}
use Rattle.saw_runs.proofs.paths.path_below.Given as goal

-- the nodes above the place that the first bytes lead to are gathered
abbrev pub invariant-loop-place : goal.invariant-loop-place
invariant-loop-place g l = (l.place.0 ≤ 35)
    × Gathers g.H.NodeHasher.hash_of (read_at l.tables) l.root l.at l.place.0 l.place.1 (map shape_of l.nodes.items)

abbrev pub decreases-loop-place : goal.decreases-loop-place
decreases-loop-place g l = 35 - l.place.0
