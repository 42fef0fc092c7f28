use Rattle.std.specs.Prelude.{◌≡◌, false, All}
use Rattle.saw_cases.proofs.stations.new_stations.Given as goal

abbrev pub invariant-loop : goal.invariant-loop
invariant-loop l = All (λ station. station.begun ≡ false) l.stations.items
