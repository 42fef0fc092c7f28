use Rattle.std.proofs.Common.{◌≡◌, take}
use Rattle.saw_identity.specs.Stations.{identity_offers}
use Rattle.saw_identity.proofs.station.identity_offers.Given as goal

abbrev pub invariant-loop-offer : goal.invariant-loop-offer
invariant-loop-offer l = l.offers.items ≡ identity_offers (take l.offer-index l.inner)
