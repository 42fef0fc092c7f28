-- External processors that were moved into desks and back.
use Rattle.std.proofs.Common.{◌≡◌, ℕ, ◌≤◌, ◌<◌, List, [], ◌∷◌, ◌++◌, length, map, reverse, take, Option, Some, None, refl, sym, ap, ap₂, subst, ◌∙◌, arith}
use Rattle.std.specs.Prelude.{is_some}
use Rattle.std.proofs.Math.Seq.{take-append_seam}
use Rattle.std.proofs.lemmas.List.{length-map, map-append}
use Rattle.saw_crew.specs.Desks.{HaveSameOffers, KeepsDesks, offers_at}
use Rattle.saw_station.specs.DeskPlaces.{Place, faults_by, offered_by}
use Rattle.saw_station.specs.declared.offer.Offer.{Offer}
use Rattle.saw_top.specs.Outside.{AreLater, SomeRose, counts_of}
use Rattle.saw_top.specs.Seats.{HaveOffers, remotes_at}
use Rattle.saw_top.proofs.Counting.{first_last, later_back, later_both, later_count, later_same, rose_back, rose_last}

pub map_back : {X Y : Type 0} (f : X → Y) (xs : List X) → map f (reverse xs) ≡ reverse (map f xs)
map_back f [] = refl
map_back f (x ∷ xs) =
    ap (map f) (first_last x xs) ∙ map-append f (reverse xs) (x ∷ []) ∙ ap (λ l. l ++ f x ∷ []) (map_back f xs) ∙ sym (first_last (f x) (map f xs))

-- ---- equal offers

pub offers_are : {R : Type 0} (offers : List Offer) (desks : List (Place R)) → 0 < length desks → HaveOffers offers desks → offers_at desks ≡ offers
offers_are offers [] some have = let no : ⊥ = omega (arith, some) in absurd no
offers_are offers (desk ∷ desks) some have = have.0

pub are_alike : {R : Type 0} (offers : List Offer) (desks : List (Place R)) → 0 < length desks → HaveOffers offers desks → HaveSameOffers desks
are_alike offers desks some have = subst (λ (same : List Offer). HaveOffers same desks) (sym (offers_are offers desks some have)) have

-- ---- what stays

module _ {R : Type 0} (faults : R → ℕ) (offered : R → List Offer) where
  abbrev at_desk : Option R → List Offer → Place R
  at_desk remote offers = record { remote = remote; offers = offers }

  counts_one : (remote : Option R) (offers : List Offer) (desks : List (Place R)) → counts_of faults desks ≡ map faults (remotes_at desks)
      → counts_of faults (at_desk remote offers ∷ desks) ≡ map faults (remotes_at (at_desk remote offers ∷ desks))
  counts_one None offers desks same = same
  counts_one (Some remote) offers desks same = ap (λ (l : List ℕ). faults remote ∷ l) same

  counts_are : (desks : List (Place R)) → counts_of faults desks ≡ map faults (remotes_at desks)
  counts_are [] = refl
  counts_are (desk ∷ desks) = counts_one desk.remote desk.offers desks (counts_are desks)

  later_one : (before after : Option R) (one other : List Offer) (olds news : List (Place R)) → is_some after ≡ is_some before
      → faults_by faults before ≤ faults_by faults after → AreLater (map faults (remotes_at olds)) (map faults (remotes_at news))
      → AreLater (map faults (remotes_at (at_desk before one ∷ olds))) (map faults (remotes_at (at_desk after other ∷ news)))
  later_one None None one other olds news same later others = others
  later_one None (Some remote) one other olds news same later others = absurd cc
  later_one (Some remote) None one other olds news same later others = absurd cc
  later_one (Some remote) (Some next) one other olds news same later others = (later, others)

  kept_later : (olds news : List (Place R)) → KeepsDesks faults offered olds news
      → AreLater (map faults (remotes_at olds)) (map faults (remotes_at news))
  kept_later [] [] keeps = tt
  kept_later [] (new ∷ news) keeps = absurd keeps
  kept_later (old ∷ olds) [] keeps = absurd keeps
  kept_later (old ∷ olds) (new ∷ news) keeps =
      later_one old.remote new.remote old.offers new.offers olds news keeps.0.remote keeps.0.later (kept_later olds news keeps.1)

  offered_one : (before after : Option R) (one other : List Offer) (olds news : List (Place R)) → is_some after ≡ is_some before
      → offered_by offered after ≡ offered_by offered before → map offered (remotes_at news) ≡ map offered (remotes_at olds)
      → map offered (remotes_at (at_desk after other ∷ news)) ≡ map offered (remotes_at (at_desk before one ∷ olds))
  offered_one None None one other olds news same own others = others
  offered_one None (Some remote) one other olds news same own others = absurd cc
  offered_one (Some remote) None one other olds news same own others = absurd cc
  offered_one (Some remote) (Some next) one other olds news same own others = ap₂ (λ (o : List Offer) (l : List (List Offer)). o ∷ l) own others

  kept_own : (olds news : List (Place R)) → KeepsDesks faults offered olds news → map offered (remotes_at news) ≡ map offered (remotes_at olds)
  kept_own [] [] keeps = refl
  kept_own [] (new ∷ news) keeps = absurd keeps
  kept_own (old ∷ olds) [] keeps = absurd keeps
  kept_own (old ∷ olds) (new ∷ news) keeps =
      offered_one old.remote new.remote old.offers new.offers olds news keeps.0.remote keeps.0.own_offers (kept_own olds news keeps.1)

  -- ---- back at their places, behind those that stayed

  module _ (left : List R) (olds news : List (Place R)) (keeps : KeepsDesks faults offered olds news) where
    abbrev behind : List (Place R) → List R
    behind desks = left ++ reverse (remotes_at desks)

    mapped : {A : Type 0} (f : R → A) (desks : List (Place R)) → map f (behind desks) ≡ map f left ++ reverse (map f (remotes_at desks))
    mapped f desks = map-append f left (reverse (remotes_at desks)) ∙ ap (λ l. map f left ++ l) (map_back f (remotes_at desks))

    pub all_later : AreLater (map faults (behind olds)) (map faults (behind news))
    all_later =
        subst (λ (l : List ℕ). AreLater l (map faults (behind news))) (sym (mapped faults olds))
        (subst (AreLater (map faults left ++ reverse (map faults (remotes_at olds)))) (sym (mapped faults news))
        (later_both (map faults left) (map faults left) (reverse (map faults (remotes_at olds))) (reverse (map faults (remotes_at news)))
        (later_same (map faults left))
        (later_back (map faults (remotes_at olds)) (map faults (remotes_at news)) (kept_later olds news keeps))))

    pub all_rose : SomeRose (counts_of faults olds) (counts_of faults news) → SomeRose (map faults (behind olds)) (map faults (behind news))
    all_rose rose =
        let here : SomeRose (map faults (remotes_at olds)) (map faults (remotes_at news)) =
        subst (λ (l : List ℕ). SomeRose l (map faults (remotes_at news))) (counts_are olds) (subst (SomeRose (counts_of faults olds)) (counts_are news) rose) in
        let count = later_count (map faults (remotes_at olds)) (map faults (remotes_at news)) (kept_later olds news keeps) in
        subst (λ (l : List ℕ). SomeRose l (map faults (behind news))) (sym (mapped faults olds))
        (subst (SomeRose (map faults left ++ reverse (map faults (remotes_at olds)))) (sym (mapped faults news))
        (rose_last (map faults left) (map faults left) (reverse (map faults (remotes_at olds))) (reverse (map faults (remotes_at news))) refl
        (rose_back (map faults (remotes_at olds)) (map faults (remotes_at news)) count here)))

    pub all_offers : map offered (behind news) ≡ map offered (behind olds)
    all_offers = mapped offered news ∙ ap (λ l. map offered left ++ reverse l) (kept_own olds news keeps) ∙ sym (mapped offered olds)

    pub as_many : length (remotes_at news) ≡ length (remotes_at olds)
    as_many =
        let count = later_count (map faults (remotes_at olds)) (map faults (remotes_at news)) (kept_later olds news keeps) in
        let one : length (map faults (remotes_at olds)) ≡ length (remotes_at olds) = simp length-map in
        let other : length (map faults (remotes_at news)) ≡ length (remotes_at news) = simp length-map in
        omega (arith, count, one, other)

-- ---- what a vector holds behind a call on its slice

pub as_many_desks : {R : Type 0} (faults : R → ℕ) (offered : R → List Offer) (olds news : List (Place R)) → KeepsDesks faults offered olds news
    → length news ≡ length olds
as_many_desks faults offered [] [] keeps = refl
as_many_desks faults offered [] (new ∷ news) keeps = absurd keeps
as_many_desks faults offered (old ∷ olds) [] keeps = absurd keeps
as_many_desks faults offered (old ∷ olds) (new ∷ news) keeps = omega (arith, as_many_desks faults offered olds news keeps.1)

pub written_back : {X : Type 0} (count : ℕ) (news rest : List X) → length news ≡ count → take count (news ++ rest) ≡ news
written_back count news rest is = ap (λ (n : ℕ). take n (news ++ rest)) (sym is) ∙ take-append_seam news rest
