use Rattle.std.proofs.Common.{◌≡◌, take}
use Rattle.std.specs.List.{flat_map}
use Rattle.saw_report.specs.Events.{event_line}
use Rattle.saw_report.proofs.event.events_lines.Given as goal

abbrev pub invariant-loop-event : goal.invariant-loop-event
invariant-loop-event l = l.out.items ≡ flat_map (event_line l.told.id) (take l.event-index l.told.events)
