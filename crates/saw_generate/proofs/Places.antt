-- Lists by their places, and ids that all differ.
use Rattle.std.proofs.Common.{◌≡◌, ℕ, zero, suc, ◌+◌, ◌-◌, ◌<◌, Bool, true, false, List, [], ◌∷◌, ◌++◌, map, refl, sym, ap, subst, ◌∙◌, arith}
use Rattle.std.specs.Prelude.{not}
use Rattle.std.specs.Cmp.Lexicographic.{nat_list_eq_equiv}
use Rattle.std.specs.List.{AllByRecursion, flat_map, list_any, range_with_len}
use Rattle.std.specs.Str.{bytes_eq}
use Rattle.std.proofs.lemmas.Bool.{and_from, and_parts, not-true, not_from_false, or_from, or_parts}
use Rattle.std.proofs.lemmas.Grind.{flat_map-append}
use Rattle.std.proofs.lemmas.List.{append-nil, map-append}
use Rattle.std.proofs.lemmas.List.Concat.{flat_map-cons}
use Rattle.std.proofs.lemmas.List.Folds.{list_any-append}
use Rattle.saw_context.proofs.Each.{all_left, all_right}
use Rattle.saw_ids.specs.Seen.{is_among}
use Rattle.saw_messages.specs.Distinct.{are_distinct}

-- ---- places

module _ (P : ℕ → Type 0) where
  places_from : (first count : ℕ) → ((k : ℕ) → k < first + count → P k) → AllByRecursion P (range_with_len first count)
  places_from first zero at = tt
  places_from first (suc count) at = (at first (omega arith), places_from (first + 1) count (λ k low. at k (omega (arith, low))))

  place_from : (first count i : ℕ) → i < count → AllByRecursion P (range_with_len first count) → P (first + i)
  place_from first zero i low all = absurd (omega (arith, low))
  place_from first (suc count) zero low all = let here : first ≡ first + 0 = omega arith in subst P here all.0
  place_from first (suc count) (suc i) low all =
      let here : first + 1 + i ≡ first + suc i = omega arith in
      subst P here (place_from (first + 1) count i (omega (arith, low)) all.1)

  -- what is so at each of the first places is so of all
  pub all_places : (count : ℕ) → ((k : ℕ) → k < count → P k) → AllByRecursion P (range_with_len 0 count)
  all_places count at = places_from 0 count (λ k low. at k (omega (arith, low)))

  pub at_place : (count k : ℕ) → k < count → AllByRecursion P (range_with_len 0 count) → P k
  at_place count k low all = let here : 0 + k ≡ k = omega arith in subst P here (place_from 0 count k low all)

-- so many places from one on, and more
pub range_split : (first count more : ℕ) → range_with_len first (count + more) ≡ range_with_len first count ++ range_with_len (first + count) more
range_split first zero more =
    let none : 0 + more ≡ more = omega arith in
    let same : first ≡ first + 0 = omega arith in
    ap (range_with_len first) none ∙ ap (λ n. range_with_len n more) same
range_split first (suc count) more =
    let next : first + 1 + count ≡ first + suc count = omega arith in
    let one : suc count + more ≡ suc (count + more) = omega arith in
    ap (range_with_len first) one ∙ ap (λ (rest : List ℕ). first ∷ rest) (range_split (first + 1) count more)
    ∙ ap (λ n. first ∷ (range_with_len (first + 1) count ++ range_with_len n more)) next

-- the first places, and those behind them
pub places_split : (count more : ℕ) → range_with_len 0 (count + more) ≡ range_with_len 0 count ++ range_with_len count more
places_split count more =
    let same : 0 + count ≡ count = omega arith in
    range_split 0 count more ∙ ap (λ n. range_with_len 0 count ++ range_with_len n more) same

pub places_more : (count : ℕ) → range_with_len 0 (suc count) ≡ range_with_len 0 count ++ count ∷ []
places_more count = let one : suc count ≡ count + 1 = omega arith in ap (range_with_len 0) one ∙ places_split count 1

-- ---- what is so of each part

module _ {A B : Type 0} where
  -- what is so of all mapped elements is so of each
  pub all_mapped : (f : A → B) (P : B → Type 0) (xs : List A) → AllByRecursion P (map f xs) → AllByRecursion (λ x. P (f x)) xs
  all_mapped f P [] all = tt
  all_mapped f P (x ∷ xs) all = (all.0, all_mapped f P xs all.1)

  -- what is so of all that parts have is so of each part
  pub all_parts : (f : A → List B) (P : B → Type 0) (xs : List A) → AllByRecursion P (flat_map f xs)
      → AllByRecursion (λ x. AllByRecursion P (f x)) xs
  all_parts f P [] all = tt
  all_parts f P (x ∷ xs) all =
      let parts : AllByRecursion P (f x ++ flat_map f xs) = subst (AllByRecursion P) (flat_map-cons f x xs) all in
      (all_left P (f x) (flat_map f xs) parts, all_parts f P xs (all_right P (f x) (flat_map f xs) parts))

-- ---- ids that all differ

none_pass : (p : List ℕ → Bool) (xs : List (List ℕ)) → list_any p xs ≡ false → AllByRecursion (λ x. p x ≡ false) xs
none_pass p [] none = tt
none_pass p (x ∷ xs) none = let parts = or_parts (p x) (list_any p xs) none in (parts.0, none_pass p xs parts.1)

module _ (x : List ℕ) (xs ys : List (List ℕ)) (all : are_distinct (x ∷ (xs ++ ys)) ≡ true) where
  first_apart : (list_any (λ other. bytes_eq other x) (xs ++ ys) ≡ false) × (are_distinct (xs ++ ys) ≡ true)
  first_apart =
      let parts = and_parts (not (list_any (λ other. bytes_eq other x) (xs ++ ys))) (are_distinct (xs ++ ys)) all in
      (not-true (list_any (λ other. bytes_eq other x) (xs ++ ys)) parts.0, parts.1)

  both_apart : (list_any (λ other. bytes_eq other x) xs ≡ false) × (list_any (λ other. bytes_eq other x) ys ≡ false)
  both_apart =
      or_parts (list_any (λ other. bytes_eq other x) xs) (list_any (λ other. bytes_eq other x) ys)
      (sym (list_any-append (λ other. bytes_eq other x) xs ys) ∙ first_apart.0)

pub distinct_front : (xs ys : List (List ℕ)) → are_distinct (xs ++ ys) ≡ true → are_distinct xs ≡ true
distinct_front [] ys all = refl
distinct_front (x ∷ xs) ys all =
    let apart = both_apart x xs ys all in
    and_from (not (list_any (λ other. bytes_eq other x) xs)) (are_distinct xs) (not_from_false (list_any (λ other. bytes_eq other x) xs) apart.0)
    (distinct_front xs ys (first_apart x xs ys all).1)

pub distinct_back : (xs ys : List (List ℕ)) → are_distinct (xs ++ ys) ≡ true → are_distinct ys ≡ true
distinct_back [] ys all = all
distinct_back (x ∷ xs) ys all = distinct_back xs ys (first_apart x xs ys all).1

one_more_apart : (x : List ℕ) (xs ys : List (List ℕ)) → AllByRecursion (λ y. bytes_eq y x ≡ false) ys → AllByRecursion (λ y. is_among xs y ≡ false) ys
    → AllByRecursion (λ y. is_among (x ∷ xs) y ≡ false) ys
one_more_apart x xs [] first others = tt
one_more_apart x xs (y ∷ ys) first others = (
  or_from (bytes_eq x y) (is_among xs y) (nat_list_eq_equiv.symm x y ∙ first.0) others.0,
  one_more_apart x xs ys first.1 others.1,
)

-- the later ones are not among the earlier ones
pub later_apart : (xs ys : List (List ℕ)) → are_distinct (xs ++ ys) ≡ true → AllByRecursion (λ y. is_among xs y ≡ false) ys
later_apart [] ys all = none_among ys
  where
    none_among : (ys : List (List ℕ)) → AllByRecursion (λ y. is_among [] y ≡ false) ys
    none_among [] = tt
    none_among (y ∷ ys) = (refl, none_among ys)
later_apart (x ∷ xs) ys all =
    one_more_apart x xs ys (none_pass (λ other. bytes_eq other x) ys (both_apart x xs ys all).1) (later_apart xs ys (first_apart x xs ys all).1)

-- the ids of each part differ
pub distinct_parts : {A : Type 0} (f : A → List (List ℕ)) (xs : List A) → are_distinct (flat_map f xs) ≡ true
    → AllByRecursion (λ x. are_distinct (f x) ≡ true) xs
distinct_parts f [] all = tt
distinct_parts f (x ∷ xs) all =
    let parts : are_distinct (f x ++ flat_map f xs) ≡ true = ap are_distinct (sym (flat_map-cons f x xs)) ∙ all in
    (distinct_front (f x) (flat_map f xs) parts, distinct_parts f xs (distinct_back (f x) (flat_map f xs) parts))

-- ---- ids by places

module _ (f : ℕ → List (List ℕ)) where
  -- those of one place more
  pub parts_more : (b : ℕ) → flat_map f (range_with_len 0 (suc b)) ≡ flat_map f (range_with_len 0 b) ++ f b
  parts_more b =
      ap (flat_map f) (places_more b) ∙ flat_map-append f (range_with_len 0 b) (b ∷ [])
      ∙ ap (λ (last : List (List ℕ)). flat_map f (range_with_len 0 b) ++ last) (flat_map-cons f b [] ∙ append-nil (f b))

  -- those of a place differ from one another and from those before it
  pub parts_differ : (count b : ℕ) → b < count → are_distinct (flat_map f (range_with_len 0 count)) ≡ true
      → are_distinct (flat_map f (range_with_len 0 b) ++ f b) ≡ true
  parts_differ count b low all =
      let more = count - suc b in
      let whole : suc b + (count - suc b) ≡ count = omega (arith, low) in
      let cut = ap (λ n. flat_map f (range_with_len 0 n)) (sym whole) ∙ ap (flat_map f) (places_split (suc b) more)
      ∙ flat_map-append f (range_with_len 0 (suc b)) (range_with_len (suc b) more) in
      ap are_distinct (sym (parts_more b))
      ∙ distinct_front (flat_map f (range_with_len 0 (suc b))) (flat_map f (range_with_len (suc b) more)) (ap are_distinct (sym cut) ∙ all)

module _ (f : ℕ → List ℕ) where
  pub ids_more : (b : ℕ) → map f (range_with_len 0 (suc b)) ≡ map f (range_with_len 0 b) ++ f b ∷ []
  ids_more b = ap (map f) (places_more b) ∙ map-append f (range_with_len 0 b) (b ∷ [])

  -- that of a place is none of those before it
  pub id_is_new : (count b : ℕ) → b < count → are_distinct (map f (range_with_len 0 count)) ≡ true → is_among (map f (range_with_len 0 b)) (f b) ≡ false
  id_is_new count b low all =
      let more = count - suc b in
      let whole : suc b + (count - suc b) ≡ count = omega (arith, low) in
      let cut = ap (λ n. map f (range_with_len 0 n)) (sym whole) ∙ ap (map f) (places_split (suc b) more)
      ∙ map-append f (range_with_len 0 (suc b)) (range_with_len (suc b) more) in
      let front = distinct_front (map f (range_with_len 0 (suc b))) (map f (range_with_len (suc b) more)) (ap are_distinct (sym cut) ∙ all) in
      (later_apart (map f (range_with_len 0 b)) (f b ∷ []) (ap are_distinct (sym (ids_more b)) ∙ front)).0
