use Rattle.std.proofs.Common.{◌≡◌, ◌++◌, map}
use Rattle.saw_schedule.specs.Inside.{outcome_in}
use Rattle.saw_schedule.proofs.gathering.outcomes_of.Given as goal

abbrev pub invariant-loop-step : goal.invariant-loop-step
invariant-loop-step l = l.outcomes.items ++ map outcome_in l.step-iterator.rest.items ≡ map outcome_in l.fn.steps.items
