use Rattle.std.proofs.Common.{◌≡◌, take}
use Rattle.saw_queries.proofs.copies.copy_events.Given as goal

abbrev pub invariant-loop-event : goal.invariant-loop-event
invariant-loop-event l = l.made ≡ take l.event-index l.events
