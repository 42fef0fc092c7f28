use Rattle.std.proofs.Common.{◌≡◌, drop}
use Rattle.saw_address.specs.Maps.{StateMap}
use Rattle.saw_context.specs.Outcome.{changes_of, map_after}
use Rattle.saw_context.specs.Serial.{left_after}
use Rattle.saw_schedule.proofs.results.Results.changes.Given as goal

abbrev pub invariant-loop-batch : goal.invariant-loop-batch
invariant-loop-batch l = (m : StateMap)
    → left_after (map_after m (changes_of l.gathered)) (drop l.batch-index l.self.batches) ≡ left_after m l.self.batches
