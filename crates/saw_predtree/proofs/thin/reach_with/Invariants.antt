use Rattle.saw_predtree.specs.Thinned.{IsReachWith}
use Rattle.saw_predtree.proofs.thin.reach_with.Given as goal

abbrev pub invariant-loop-number : goal.invariant-loop-number
invariant-loop-number l = IsReachWith l.from l.given l.reach
