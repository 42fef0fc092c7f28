use Rattle.std.proofs.Common.{◌≤◌}
use Rattle.saw_plan_steps.proofs.trees.lines.Given as goal

abbrev pub invariant-loop-line : goal.invariant-loop-line
invariant-loop-line l = l.tree.next ≤ l.index
