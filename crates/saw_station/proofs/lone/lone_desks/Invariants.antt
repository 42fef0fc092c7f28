use Rattle.std.proofs.Common.{◌≡◌, ◌+◌, length}
use Rattle.saw_station.specs.DeskPlaces.{AreLone}
use Rattle.saw_station.proofs.lone.lone_desks.Given as goal

abbrev pub invariant-loop : goal.invariant-loop
invariant-loop l = AreLone l.desks.items × (length l.desks.items ≡ l.counter + 1)
