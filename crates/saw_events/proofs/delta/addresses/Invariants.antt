use Rattle.std.proofs.Common.{◌≡◌, take}
use Rattle.saw_events.specs.Events.{delta_attributes}
use Rattle.saw_events.proofs.delta.addresses.Given as goal

abbrev pub invariant-loop-change : goal.invariant-loop-change
invariant-loop-change l = l.made ≡ delta_attributes (take l.change-index l.changes)
