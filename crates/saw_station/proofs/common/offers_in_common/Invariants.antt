use Rattle.std.proofs.Common.{◌≡◌, map, take}
use Rattle.std.specs.List.{filter}
use Rattle.saw_station.specs.CommonOffers.{is_common}
use Rattle.saw_station.proofs.common.offers_in_common.Given as goal

abbrev pub invariant-loop-offer : goal.invariant-loop-offer
invariant-loop-offer g l = l.kept.items ≡ filter (is_common (map g.R.Station.offered l.others)) (take l.offer-index l.offers)
