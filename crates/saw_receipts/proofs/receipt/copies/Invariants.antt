use Rattle.std.proofs.Common.{◌≡◌, take}
use Rattle.saw_receipts.proofs.receipt.copies.Given as goal

abbrev pub invariant-loop-event : goal.invariant-loop-event
invariant-loop-event l = l.made ≡ take l.event-index l.events
