use Rattle.saw_schedule.proofs.Gatherings.{AreMoved}
use Rattle.saw_schedule.proofs.gathering.move_outcomes.Given as goal

abbrev pub invariant-loop-i : goal.invariant-loop-i
invariant-loop-i l = AreMoved l.kept l.fn.outcomes.items l.outcomes.items l.from l.i l.to l.moved
