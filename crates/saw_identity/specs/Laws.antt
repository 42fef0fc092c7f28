-- What is true of the family besides other stations, and of permissions.
use Rattle.std.specs.Prelude.{◌≡◌, ℕ, List, ◌∷◌, map, None}
use Rattle.saw_address.specs.Maps.{StateMap, value_at}
use Rattle.saw_messages.specs.TxShapes.{BatchShape}
use Rattle.saw_station.specs.CommonOffers.{common}
use Rattle.saw_station.specs.declared.offer.Offer.{Offer}
use Rattle.saw_identity.specs.Addresses.{policy_address, role_address}
use Rattle.saw_identity.specs.Permissions.{fault}
use Rattle.saw_identity.specs.Stations.{identity_offers}

-- what stations have in common that all serve the family besides: the family, and what the inner ones have in common
abbrev pub CommonWithIdentity : Type 0
CommonWithIdentity = (first : List Offer) (others : List (List Offer)) → common (map identity_offers (first ∷ others)) ≡ identity_offers (common (first ∷ others))

-- where no role and no policy is kept, nobody is denied
abbrev pub NothingKeptDeniesNothing : Type 0
NothingKeptDeniesNothing = (m : StateMap) → ((name : List ℕ) → value_at m (role_address name) ≡ None) → ((name : List ℕ) → value_at m (policy_address name) ≡ None)
    → (signer : List ℕ) (before : List BatchShape) (batch : BatchShape) → fault m signer before batch ≡ None
