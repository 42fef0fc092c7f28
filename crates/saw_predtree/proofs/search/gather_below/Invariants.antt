use Rattle.saw_predtree.proofs.Walks.{IsOnTheWay}
use Rattle.saw_predtree.proofs.search.gather_below.Given as goal

abbrev pub invariant-loop-at : goal.invariant-loop-at
invariant-loop-at l = IsOnTheWay l.usage l.places l.key l.fn.found.items l.found.items l.at-iterator
