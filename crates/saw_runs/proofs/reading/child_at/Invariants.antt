use Rattle.std.proofs.Common.{◌≡◌, drop, map}
use Rattle.saw_node.specs.Nodes.{pair_of}
use Rattle.saw_runs.specs.Tables.{at_byte}
use Rattle.saw_runs.proofs.reading.child_at.Given as goal

-- what is not passed yet tells the child
abbrev pub invariant-loop-child : goal.invariant-loop-child
invariant-loop-child l = at_byte l.byte (map pair_of (drop l.child-index l.children)) ≡ at_byte l.byte (map pair_of l.children)
