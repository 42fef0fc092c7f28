use Rattle.std.proofs.Common.{◌≡◌, ◌++◌, List, take}
use Rattle.std.specs.FinMap as finite
use Rattle.saw_messages.specs.declared.receipt.StateChange.{StateChange}
use Rattle.saw_events.specs.Events.{last_by_address}
use Rattle.saw_events.proofs.delta.add_changes.Given as goal

abbrev pub invariant-loop-change : goal.invariant-loop-change
invariant-loop-change l = (earlier : List StateChange) → finite.from_entries l.fn.last.entries ≡ last_by_address earlier
    → finite.from_entries l.last.entries ≡ last_by_address (earlier ++ take l.change-index l.changes)
