use Rattle.std.proofs.Common.{◌≡◌, ◌++◌, List, take}
use Rattle.std.specs.FinMap as finite
use Rattle.std.specs.List.{flat_map}
use Rattle.saw_messages.specs.declared.receipt.StateChange.{StateChange}
use Rattle.saw_events.specs.Events.{last_by_address}
use Rattle.saw_events.proofs.delta.add_receipts.Given as goal

abbrev pub invariant-loop-receipt : goal.invariant-loop-receipt
invariant-loop-receipt l = (earlier : List StateChange) → finite.from_entries l.fn.last.entries ≡ last_by_address earlier
    → finite.from_entries l.last.entries ≡ last_by_address (earlier ++ flat_map (λ receipt. receipt.state_changes) (take l.receipt-index l.receipts))
