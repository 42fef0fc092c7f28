-- Who is among numbers, and which prefixes are among others.
use Rattle.std.proofs.Common.{◌≡◌, ℕ, Bool, true, false, ◌==◌, ◌⊎◌, inl, inr, List, [], ◌∷◌, ◌++◌, refl, sym, ap, ◌∙◌, bytes_eq}
use Rattle.std.specs.List.{list_any}
use Rattle.std.proofs.lemmas.Bool.{eq-eqb, eqb-true, or_cases, or_left, or_right, true≢false}
use Rattle.std.proofs.lemmas.List.Folds.{list_any-append}
use Rattle.std.proofs.lemmas.Slice.Eq.{bytes_eq-Decides}
use Rattle.saw_predtree.specs.Trees.{is_in, is_one_of}

-- ---- any test

module _ {X : Type 0} (test : X → Bool) where
  pub any-left : (xs ys : List X) → list_any test xs ≡ true → list_any test (xs ++ ys) ≡ true
  any-left xs ys h = list_any-append test xs ys ∙ or_left (list_any test xs) (list_any test ys) h

  pub any-right : (xs ys : List X) → list_any test ys ≡ true → list_any test (xs ++ ys) ≡ true
  any-right xs ys h = list_any-append test xs ys ∙ or_right (list_any test xs) (list_any test ys) h

  pub any-parts : (xs ys : List X) → list_any test (xs ++ ys) ≡ true → (list_any test xs ≡ true) ⊎ (list_any test ys ≡ true)
  any-parts xs ys h = or_cases (list_any test xs) (list_any test ys) (sym (list_any-append test xs ys) ∙ h)

  pub any-one : (x : X) → list_any test (x ∷ []) ≡ true → test x ≡ true
  any-one x h = elim (or_cases (test x) false h) [
    | inl here ↦ here
    | inr none ↦ absurd (true≢false (sym none))
  ]

  pub any-of-one : (x : X) → test x ≡ true → list_any test (x ∷ []) ≡ true
  any-of-one x h = or_left (test x) false h

-- ---- numbers

-- an element is in the list
pub in-one : (x j : ℕ) → is_in (x ∷ []) j ≡ true → x ≡ j
in-one x j h = eqb-true x j (any-one (λ (number : ℕ). number == j) x h)

pub in-itself : (j : ℕ) → is_in (j ∷ []) j ≡ true
in-itself j = any-of-one (λ (number : ℕ). number == j) j (eq-eqb j j refl)

-- where nothing is, the list is empty
pub none-in : (xs : List ℕ) → ((j : ℕ) → is_in xs j ≡ true → true ≡ false) → xs ≡ []
none-in [] h = refl
none-in (x ∷ xs) h = absurd (true≢false (h x (or_left (x == x) (is_in xs x) (eq-eqb x x refl))))

-- ---- prefixes

pub same-bytes : (xs ys : List ℕ) → bytes_eq xs ys ≡ true → xs ≡ ys
same-bytes xs ys h = (bytes_eq-Decides xs ys).0 h

pub bytes-same : (xs ys : List ℕ) → xs ≡ ys → bytes_eq xs ys ≡ true
bytes-same xs ys h = (bytes_eq-Decides xs ys).1 h

pub one-itself : (p : List ℕ) → is_one_of (p ∷ []) p ≡ true
one-itself p = any-of-one (λ (other : List ℕ). bytes_eq other p) p (bytes-same p p refl)

pub one-same : (x p : List ℕ) → is_one_of (x ∷ []) p ≡ true → x ≡ p
one-same x p h = same-bytes x p (any-one (λ (other : List ℕ). bytes_eq other p) x h)

-- one that passes a test is found, and what is found is one that passes
pub any-found : (test : List ℕ → Bool) (ps : List (List ℕ)) (p : List ℕ) → is_one_of ps p ≡ true → test p ≡ true → list_any test ps ≡ true
any-found test [] p one h = absurd (true≢false (sym one))
any-found test (x ∷ ps) p one h = elim (or_cases (bytes_eq x p) (is_one_of ps p) one) [
  | inl here ↦ or_left (test x) (list_any test ps) (ap test (same-bytes x p here) ∙ h)
  | inr there ↦ or_right (test x) (list_any test ps) (any-found test ps p there h)
]

pub any-is : (test : List ℕ → Bool) (ps : List (List ℕ)) → list_any test ps ≡ true → (p : List ℕ) × (is_one_of ps p ≡ true) × (test p ≡ true)
any-is test [] h = absurd (true≢false (sym h))
any-is test (x ∷ ps) h = elim (or_cases (test x) (list_any test ps) h) [
  | inl here ↦ (x, or_left (bytes_eq x x) (is_one_of ps x) (bytes-same x x refl), here)
  | inr there ↦ let more = any-is test ps there in (more.0, or_right (bytes_eq x more.0) (is_one_of ps more.0) more.1, more.2)
]
