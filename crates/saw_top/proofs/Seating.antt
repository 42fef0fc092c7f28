-- Remotes that move into desks and back.
use Rattle.std.proofs.Common.{◌≡◌, List, [], ◌∷◌, ◌++◌, length, Some, None, reverse, refl, ap, subst, ◌∙◌, append_assoc, arith}
use Rattle.std.specs.Prelude.{All}
use Rattle.std.proofs.Math.Seq.{get_or-append_seam}
use Rattle.std.proofs.lemmas.List.{append-nil, get_or_append_left, length-append, reverse-append}
use Rattle.std.proofs.lemmas.List.Elements.{filter_map-append}
use Rattle.saw_station.specs.DeskPlaces.{Place}
use Rattle.saw_top.specs.Seats.{HaveOffers, remotes_at}
use Rattle.saw_station.specs.declared.offer.Offer.{Offer}

pub have_more : {R : Type 0} (offers : List Offer) (desks : List (Place R)) (desk : Place R) → HaveOffers offers desks → desk.offers ≡ offers
    → HaveOffers offers (desks ++ desk ∷ [])
have_more offers [] desk have is = (is, tt)
have_more offers (first ∷ desks) desk have is = (have.0, have_more offers desks desk have.1 is)

module _ {R : Type 0} (desks : List (Place R)) where
  split_last : (desk : Place R) → remotes_at (desks ++ desk ∷ []) ≡ remotes_at desks ++ remotes_at (desk ∷ [])
  split_last desk = filter_map-append (λ (desk : Place R). desk.remote) desks (desk ∷ [])

  -- the last desk's remote comes first in reverse
  pub last_first : (desk : Place R) (remote : R) → desk.remote ≡ Some remote
      → reverse (remotes_at (desks ++ desk ∷ [])) ≡ remote ∷ reverse (remotes_at desks)
  last_first desk remote is =
      let one : remotes_at (desk ∷ []) ≡ remote ∷ [] = rw is refl in
      ap reverse (split_last desk) ∙ ap (λ (l : List R). reverse (remotes_at desks ++ l)) one
      ∙ reverse-append (remotes_at desks) (remote ∷ [])

  -- one without a remote adds none
  pub last_none : (desk : Place R) → desk.remote ≡ None → remotes_at (desks ++ desk ∷ []) ≡ remotes_at desks
  last_none desk is =
      let none : remotes_at (desk ∷ []) ≡ [] = rw is refl in
      split_last desk ∙ ap (λ (l : List R). remotes_at desks ++ l) none ∙ append-nil (remotes_at desks)

-- moved from the end of the one to the end of the other
pub moved_on : {R : Type 0} (all front others : List R) (remote : R) → all ≡ (front ++ remote ∷ []) ++ others → all ≡ front ++ (remote ∷ others)
moved_on all front others remote is = is ∙ append_assoc front (remote ∷ []) others

-- of elements of which each has a property, the last has it, and so have the others
module _ {X : Type 0} (P : X → Type 0) (xs : List X) (x : X) (all : All P (xs ++ x ∷ [])) where
  pub front_all : All P xs
  front_all k d low =
      subst P (get_or_append_left xs (x ∷ []) d k low) (all k d (omega (arith, low, length-append xs (x ∷ []))))

  pub last_all : P x
  last_all = subst P (get_or-append_seam xs x [] x) (all (length xs) x (omega (arith, length-append xs (x ∷ []))))
