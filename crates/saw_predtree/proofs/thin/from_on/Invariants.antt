use Rattle.saw_predtree.proofs.Thinning.{AreFromSoFar}
use Rattle.saw_predtree.proofs.thin.from_on.Given as goal

abbrev pub invariant-loop-number : goal.invariant-loop-number
invariant-loop-number l = AreFromSoFar l.sorted l.from l.number-index l.given.items l.low
