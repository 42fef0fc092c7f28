-- Who answers transactions beside the identity family.
use Rattle.std.proofs.Common.{◌≡◌, ◌<◌, Bool, true, List, [], ◌∷◌, length, map, refl, arith}
use Rattle.saw_identity.specs.Stations.{identity_offers, with_identity, with_identity_own}
use Rattle.saw_messages.specs.Reasons.{has_own_reason}
use Rattle.saw_messages.specs.TxShapes.{TxShape}
use Rattle.saw_messages.specs.declared.outcome.Reason.TheVariants.{Remote}
use Rattle.saw_messages.specs.declared.talk.Action.{Action}
use Rattle.saw_messages.specs.declared.talk.Action.TheVariants as actions
use Rattle.saw_messages.specs.declared.talk.Turn.{Turn}
use Rattle.saw_station.proofs.Finished.{processors_own}
use Rattle.saw_station.specs.CommonOffers.{common}
use Rattle.saw_station.specs.declared.offer.Offer.{Offer}
use Rattle.saw_top.specs.World.{processors_alone, processors_beside, processors_with}
use Rattle.saw_top.proofs.OwnReasons.{HasOwnReasons}

module _ (next : TxShape → List Turn → Action) (own : (tx : TxShape) (turns : List Turn) → has_own_reason (next tx turns) ≡ true) (tells : Bool) where
  pub own_beside : (lists : List (List Offer)) → HasOwnReasons (processors_beside next tells lists)
  own_beside lists = processors_own (with_identity next) (with_identity_own next own) tells (identity_offers (common lists))

pub own_alone : HasOwnReasons processors_alone
own_alone = own_beside (λ tx turns. actions.Invalid Remote) (λ tx turns. refl) true []

pub own_with : (next : TxShape → List Turn → Action) → ((tx : TxShape) (turns : List Turn) → has_own_reason (next tx turns) ≡ true) → (tells : Bool)
    (lists : List (List Offer)) → HasOwnReasons (processors_with next tells lists)
own_with next own tells [] = own_alone
own_with next own tells (first ∷ others) = own_beside next own tells (first ∷ others)

-- with some, it is those beside them
pub with_some : (next : TxShape → List Turn → Action) (tells : Bool) (lists : List (List Offer)) → 0 < length lists
    → processors_beside next tells lists ≡ processors_with next tells lists
with_some next tells [] some = let no : ⊥ = omega (arith, some) in absurd no
with_some next tells (first ∷ others) some = refl

-- stations that offer nothing have nothing in common
pub nothing_common : {R : Type 0} (stations : List R) → common (map (λ one. []) stations) ≡ []
nothing_common [] = refl
nothing_common (first ∷ others) = refl
