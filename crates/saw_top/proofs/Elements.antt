-- What is so of all of a list is so of each, and of the first so many.
use Rattle.std.proofs.Common.{◌≡◌, ℕ, zero, suc, Bool, true, List, [], ◌∷◌, ◌++◌, take, Some, refl, ap, subst, arith}
use Rattle.std.specs.Prelude.{slice_get}
use Rattle.std.proofs.lemmas.Bool.{and_from, and_parts}
use Rattle.std.specs.List.{AllByRecursion, list_all}

-- what is so of all is so of the one at a place
pub all_at : {X : Type 0} (test : X → Bool) (xs : List X) (n : ℕ) (x : X) → list_all test xs ≡ true → slice_get xs n ≡ Some x → test x ≡ true
all_at test [] n x all is = absurd (grind (arith, is))
all_at test (first ∷ xs) zero x all is =
    let same : first ≡ x = grind (arith, is) in subst (λ (y : _). test y ≡ true) same (and_parts (test first) (list_all test xs) all).0
all_at test (first ∷ xs) (suc n) x all is = all_at test xs n x (and_parts (test first) (list_all test xs) all).1 is

-- and of the first so many
pub all_first : {X : Type 0} (test : X → Bool) (n : ℕ) (xs : List X) → list_all test xs ≡ true → list_all test (take n xs) ≡ true
all_first test zero xs all = refl
all_first test (suc n) [] all = refl
all_first test (suc n) (x ∷ xs) all =
    let parts = and_parts (test x) (list_all test xs) all in and_from _ _ parts.0 (all_first test n xs parts.1)

-- ---- what stands at a place

-- a list is what stands before it, and behind it
pub parted_at : {A : Type 0} → (xs : List A) (n : ℕ) (x : A) → slice_get xs n ≡ Some x → (before : List A) × (after : List A) × (xs ≡ before ++ x ∷ after)
parted_at [] n x is = absurd (grind (arith, is))
parted_at (y ∷ xs) zero x is = let same : y ≡ x = grind (arith, is) in ([], xs, ap (λ z. z ∷ xs) same)
parted_at (y ∷ xs) (suc n) x is = let rest = parted_at xs n x is in (y ∷ rest.0, rest.1, ap (λ l. y ∷ l) rest.2)

-- what holds of all holds of it
pub holds_at : {A : Type 0} → (P : A → Type 0) (xs : List A) (n : ℕ) (x : A) → AllByRecursion P xs → slice_get xs n ≡ Some x → P x
holds_at P [] n x all is = absurd (grind (arith, is))
holds_at P (y ∷ xs) zero x all is = let same : y ≡ x = grind (arith, is) in subst P same all.0
holds_at P (y ∷ xs) (suc n) x all is = holds_at P xs n x all.1 is
