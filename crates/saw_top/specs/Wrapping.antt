-- Stations that serve the identity family besides what they serve.
use Rattle.std.specs.Prelude.{◌≡◌, List}
use Rattle.saw_identity.specs.Stations.{Wrapped, identity_offers}
use Rattle.saw_station.specs.declared.offer.Offer.{Offer}

abbrev pub inner_of : {R : Type 0} → Wrapped R → R
inner_of wrapped = wrapped.inner

-- it offers the family, and what the inner one offers besides
abbrev pub ServesIdentity : {R : Type 0} → (R → List Offer) → Wrapped R → Type 0
ServesIdentity offered wrapped = wrapped.offers ≡ identity_offers (offered wrapped.inner)
