use Rattle.saw_ready.specs.Cursors.{IsMetTo}
use Rattle.saw_ready.proofs.due.met_from.Given as goal

abbrev pub invariant-loop-place : goal.invariant-loop-place
invariant-loop-place l = IsMetTo l.preds l.marks l.first l.k l.place
