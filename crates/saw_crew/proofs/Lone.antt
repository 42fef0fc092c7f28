-- Desks of the built-in processors alone have the same offers: none.
use Rattle.std.proofs.Common.{◌≡◌, List, [], ◌∷◌, refl, sym, ◌∙◌}
use Rattle.std.specs.List.{AllByRecursion}
use Rattle.saw_crew.specs.Desks.{HaveSameOffers, offers_at}
use Rattle.saw_station.specs.DeskPlaces.{AreLone, Place}
use Rattle.saw_station.specs.declared.offer.Offer.{Offer}

pub lone_offers : {R : Type 0} (desks : List (Place R)) → AreLone desks → offers_at desks ≡ []
lone_offers [] lone = refl
lone_offers (desk ∷ desks) lone = lone.0.1

pub lone_alike : {R : Type 0} (desks : List (Place R)) → AreLone desks → HaveSameOffers desks
lone_alike desks lone = each (offers_at desks) (lone_offers desks lone) desks lone
  where
    each : {R : Type 0} (offers : List Offer) → offers ≡ [] → (desks : List (Place R)) → AreLone desks
        → AllByRecursion (λ desk. desk.offers ≡ offers) desks
    each offers none [] lone = tt
    each offers none (desk ∷ desks) lone = (lone.0.1 ∙ sym none, each offers none desks lone.1)
