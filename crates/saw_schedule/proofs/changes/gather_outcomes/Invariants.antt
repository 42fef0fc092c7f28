use Rattle.std.proofs.Common.{◌≡◌, drop}
use Rattle.saw_address.specs.Maps.{StateMap}
use Rattle.saw_context.specs.Outcome.{changes_of, map_after}
use Rattle.saw_context.specs.Serial.{map_after_all}
use Rattle.saw_schedule.proofs.changes.gather_outcomes.Given as goal

abbrev pub invariant-loop-outcome : goal.invariant-loop-outcome
invariant-loop-outcome l = (m : StateMap)
    → map_after_all (map_after m (changes_of l.gathered)) (drop l.outcome-index l.outcomes) ≡ map_after_all (map_after m (changes_of l.fn.gathered)) l.outcomes
