use Rattle.std.proofs.Common.{◌≡◌, map, take}
use Rattle.saw_station.specs.Families.{offer_of, row}
use Rattle.saw_station.proofs.serving.built_in_offers.Given as goal

abbrev pub invariant-loop-one : goal.invariant-loop-one
invariant-loop-one l = l.offers.items ≡ map (λ one. offer_of (row one)) (take l.one-index l.all)
