-- Stations that were wrapped and unwrapped.
use Rattle.std.proofs.Common.{◌≡◌, ◌<◌, ℕ, List, [], ◌∷◌, ◌++◌, length, map, reverse, refl, ap, ap₂, subst, ◌∙◌, arith}
use Rattle.std.proofs.lemmas.List.{length-map, map_push, reverse-append, reverse-reverse}
use Rattle.std.specs.List.{AllByRecursion}
use Rattle.saw_identity.proofs.Offers.{common_with_identity}
use Rattle.saw_identity.specs.Stations.{Wrapped, identity_offers}
use Rattle.saw_station.specs.CommonOffers.{common}
use Rattle.saw_station.specs.declared.offer.Offer.{Offer}
use Rattle.saw_top.specs.Wrapping.{ServesIdentity, inner_of}
use Rattle.saw_top.specs.Outside.{AreLater}
use Rattle.saw_top.proofs.Counting.{first_last, later_count}
use Rattle.saw_top.proofs.Seated.{map_back}

common_some : (lists : List (List Offer)) → 0 < length lists → common (map identity_offers lists) ≡ identity_offers (common lists)
common_some [] some = let no : ⊥ = omega (arith, some) in absurd no
common_some (first ∷ others) some = common_with_identity first others

module _ {R : Type 0} where
  -- the last one's station comes first in reverse
  pub last_inner : (wrapped : List (Wrapped R)) (one : Wrapped R)
      → reverse (map inner_of (wrapped ++ one ∷ [])) ≡ one.inner ∷ reverse (map inner_of wrapped)
  last_inner wrapped one = ap reverse (map_push inner_of wrapped one) ∙ reverse-append (map inner_of wrapped) (one.inner ∷ [])

  -- how often each has failed
  pub counts_inner : (faults : R → ℕ) (wrapped : List (Wrapped R)) → map (λ (one : Wrapped R). faults one.inner) wrapped ≡ map faults (map inner_of wrapped)
  counts_inner faults [] = refl
  counts_inner faults (one ∷ wrapped) = ap (λ (counts : List ℕ). faults one.inner ∷ counts) (counts_inner faults wrapped)

  offers_inner : (offered : R → List Offer) (wrapped : List (Wrapped R)) → AllByRecursion (ServesIdentity offered) wrapped
      → map (λ (one : Wrapped R). one.offers) wrapped ≡ map identity_offers (map offered (map inner_of wrapped))
  offers_inner offered [] serve = refl
  offers_inner offered (one ∷ wrapped) serve =
      ap₂ (λ (offers : List Offer) (others : List (List Offer)). offers ∷ others) serve.0 (offers_inner offered wrapped serve.1)

  -- what they have in common is the family, and what the inner ones have in common
  pub common_inner : (offered : R → List Offer) (wrapped : List (Wrapped R)) → AllByRecursion (ServesIdentity offered) wrapped
      → 0 < length (map offered (map inner_of wrapped))
      → common (map (λ (one : Wrapped R). one.offers) wrapped) ≡ identity_offers (common (map offered (map inner_of wrapped)))
  common_inner offered wrapped serve some =
      ap common (offers_inner offered wrapped serve) ∙ common_some (map offered (map inner_of wrapped)) some

-- ---- how many

pub as_many_wrapped : {R : Type 0} (faults : R → ℕ) (olds news : List (Wrapped R))
    → AreLater (map (λ (one : Wrapped R). faults one.inner) olds) (map (λ (one : Wrapped R). faults one.inner) news) → length news ≡ length olds
as_many_wrapped faults olds news later =
    let count = later_count (map (λ one. faults one.inner) olds) (map (λ one. faults one.inner) news) later in
    let one : length (map (λ (one : Wrapped _). faults one.inner) news) ≡ length news = simp length-map in
    let two : length (map (λ (one : Wrapped _). faults one.inner) olds) ≡ length olds = simp length-map in
    omega (arith, count, one, two)

pub as_many_inner : {R : Type 0} (faults : R → ℕ) (olds news : List (Wrapped R))
    → AreLater (map (λ (one : Wrapped R). faults one.inner) olds) (map (λ (one : Wrapped R). faults one.inner) news)
    → length (map inner_of news) ≡ length (map inner_of olds)
as_many_inner faults olds news later =
    let one : length (map inner_of news) ≡ length news = simp length-map in
    let two : length (map inner_of olds) ≡ length olds = simp length-map in
    omega (arith, as_many_wrapped faults olds news later, one, two)

pub as_many_offered : {R : Type 0} (offered : R → List Offer) (stations others : List R) → length stations ≡ length others → 0 < length others
    → 0 < length (map offered stations)
as_many_offered offered stations others count some =
    let same : length (map offered stations) ≡ length stations = simp length-map in
    omega (arith, same, count, some)

-- ---- in reverse

pub back_again : {X Y : Type 0} (f : X → Y) (xs : List X) → reverse (map f (reverse xs)) ≡ map f xs
back_again f xs = ap reverse (map_back f xs) ∙ reverse-reverse (map f xs)

all_parts : {X : Type 0} (P : X → Type 0) (xs : List X) (x : X) → AllByRecursion P (xs ++ x ∷ []) → P x × AllByRecursion P xs
all_parts P [] x all = (all.0, tt)
all_parts P (y ∷ xs) x all = let parts = all_parts P xs x all.1 in (parts.0, (all.0, parts.1))

pub all_back : {X : Type 0} (P : X → Type 0) (xs : List X) → AllByRecursion P (reverse xs) → AllByRecursion P xs
all_back P [] all = tt
all_back P (x ∷ xs) all =
    let parts = all_parts P (reverse xs) x (subst (AllByRecursion P) (first_last x xs) all) in
    (parts.0, all_back P xs parts.1)
