use Rattle.std.proofs.Common.{◌≡◌, ◌++◌, option_copied, take}
use Rattle.std.specs.List.{filter}
use Rattle.saw_events.specs.Telling.{is_told}
use Rattle.saw_events.proofs.events.add_events.Given as goal

abbrev pub invariant-loop-event : goal.invariant-loop-event
invariant-loop-event l = l.told ≡ l.fn.told ++ filter (is_told (option_copied l.wishes)) (take l.event-index l.events)
