use Rattle.std.proofs.Common.{◌≡◌, drop}
use Rattle.saw_context.specs.Serial.{map_after_all}
use Rattle.saw_crew.proofs.serial.apply.Given as goal

-- what is left of the outcomes leads to what all lead to
abbrev pub invariant-loop-outcome : goal.invariant-loop-outcome
invariant-loop-outcome g l = map_after_all l.state (drop l.outcome-index l.outcomes) ≡ map_after_all l.initial.state l.outcomes
