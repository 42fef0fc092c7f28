use Rattle.std.proofs.Common.{◌≡◌, drop, map}
use Rattle.saw_node.specs.Nodes.{pair_of}
use Rattle.saw_runs.specs.Tables.{at_byte}
use Rattle.saw_proofs.proofs.checking.next_of.Given as goal

-- what is not passed yet tells the child
abbrev pub invariant-loop-child : goal.invariant-loop-child
invariant-loop-child l = at_byte l.byte (map pair_of (drop l.child-index l.child-items)) ≡ at_byte l.byte (map pair_of l.child-items)
