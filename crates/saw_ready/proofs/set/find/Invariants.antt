use Rattle.saw_ready.specs.Sets.{NoneIn}
use Rattle.saw_ready.proofs.set.find.Given as goal

abbrev pub invariant-loop-i : goal.invariant-loop-i
invariant-loop-i l = NoneIn l.flags l.from l.i
