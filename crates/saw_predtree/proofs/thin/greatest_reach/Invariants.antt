use Rattle.saw_predtree.specs.Thinned.{IsReachIn}
use Rattle.saw_predtree.proofs.thin.greatest_reach.Given as goal

abbrev pub invariant-loop-number : goal.invariant-loop-number
invariant-loop-number l = IsReachIn l.reaches l.found l.greatest
