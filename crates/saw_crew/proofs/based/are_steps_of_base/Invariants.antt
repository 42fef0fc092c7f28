use Rattle.std.proofs.Common.{take}
use Rattle.saw_crew.specs.Stored.{AllOfBase}
use Rattle.saw_crew.proofs.based.are_steps_of_base.Given as goal

abbrev pub invariant-loop-step : goal.invariant-loop-step
invariant-loop-step g l = AllOfBase (g.B.Base.entry l.base) (take l.step-index l.steps)
