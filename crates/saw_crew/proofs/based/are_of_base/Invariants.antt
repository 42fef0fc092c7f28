use Rattle.std.proofs.Common.{take}
use Rattle.std.specs.List.{AllByRecursion}
use Rattle.saw_context.specs.SoundResults.{IsOfBase}
use Rattle.saw_crew.proofs.based.are_of_base.Given as goal

abbrev pub invariant-loop-read : goal.invariant-loop-read
invariant-loop-read g l = AllByRecursion (IsOfBase (g.B.Base.entry l.base)) (take l.read-index l.reads)
