use Rattle.saw_ready.specs.Resets.{AreClosed}
use Rattle.saw_ready.proofs.reset.close.Given as goal

abbrev pub invariant-loop-m : goal.invariant-loop-m
invariant-loop-m l = AreClosed l.first l.m l.fn.marks.items l.marks.items
