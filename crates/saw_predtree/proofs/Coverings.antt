-- What covers what, what overlaps what, and how both stand in the order of keys.
use Rattle.std.proofs.Common.{◌≡◌, ℕ, ◌≤◌, ◌<◌, true, ◌==◌, ◌⊎◌, List, [], ◌∷◌, length, take, inl, inr, refl, sym, ap, ◌∙◌, arith, Less, Equal, Greater, bytes_eq}
use Rattle.std.specs.Cmp.Lexicographic.{slice_cmp}
use Rattle.std.specs.Ordering.{is_le, nat_cmp}
use Rattle.std.proofs.lemmas.Bool.{and_from, and_parts, cases_lt, eq-eqb, eqb-true, or_cases, or_left, or_right, true≢false}
use Rattle.std.proofs.lemmas.List.{length-take, take-take, take_all}
use Rattle.std.proofs.lemmas.Slice.Eq.{bytes_eq-Decides}
use Rattle.saw_address.specs.Prefixes.{covers, overlaps}

pub take-covers : (prefix at : List ℕ) → covers prefix at ≡ true → take (length prefix) at ≡ prefix
take-covers prefix at h = sym ((bytes_eq-Decides prefix (take (length prefix) at)).0 h)

pub covers-take : (prefix at : List ℕ) → take (length prefix) at ≡ prefix → covers prefix at ≡ true
covers-take prefix at e = (bytes_eq-Decides prefix (take (length prefix) at)).1 (sym e)

pub covers-itself : (prefix : List ℕ) → covers prefix prefix ≡ true
covers-itself prefix = covers-take prefix prefix (take_all (length prefix) prefix (omega arith))

-- what covers is no longer than what it covers
pub length-covers : (prefix at : List ℕ) → covers prefix at ≡ true → length prefix ≤ length at
length-covers prefix at h = omega (arith, ap length (take-covers prefix at h), length-take (length prefix) at)

pub covers-trans : (first second third : List ℕ) → covers first second ≡ true → covers second third ≡ true → covers first third ≡ true
covers-trans first second third f s =
    covers-take first third
    (sym (take-take (length first) (length second) third (length-covers first second f)) ∙ ap (take (length first)) (take-covers second third s) ∙ take-covers first second f)

-- of two prefixes of an address the shorter begins the longer
covers-shorter : (first second at : List ℕ) → length first ≤ length second → covers first at ≡ true → covers second at ≡ true → covers first second ≡ true
covers-shorter first second at h f s =
    covers-take first second
    (ap (take (length first)) (sym (take-covers second at s)) ∙ take-take (length first) (length second) at h ∙ take-covers first at f)

pub overlaps-at : (first second at : List ℕ) → covers first at ≡ true → covers second at ≡ true → overlaps first second ≡ true
overlaps-at first second at f s = elim (cases_lt (length first) (length second)) [
  | inl less ↦ or_left (covers first second) (covers second first) (covers-shorter first second at (omega arith) f s)
  | inr more ↦ or_right (covers first second) (covers second first) (covers-shorter second first at more s f)
]

pub overlaps-flip : (first second : List ℕ) → overlaps first second ≡ true → overlaps second first ≡ true
overlaps-flip first second h = elim (or_cases (covers first second) (covers second first) h) [
  | inl here ↦ or_right (covers second first) (covers first second) here
  | inr there ↦ or_left (covers second first) (covers first second) there
]

-- what covers overlapping prefixes overlaps
pub overlaps-above : (first second x y : List ℕ) → covers first x ≡ true → covers second y ≡ true → overlaps x y ≡ true → overlaps first second ≡ true
overlaps-above first second x y f s h = elim (or_cases (covers x y) (covers y x) h) [
  | inl here ↦ overlaps-at first second y (covers-trans first x y f here) s
  | inr there ↦ overlaps-at first second x f (covers-trans second y x s there)
]

-- a prefix of a given length
pub take-long : (at prefix : List ℕ) (n : ℕ) → covers at prefix ≡ true → length at ≡ n → take n prefix ≡ at
take-long at prefix n h long = ap (λ (m : ℕ). take m prefix) (sym long) ∙ take-covers at prefix h

pub covers-first : (prefix : List ℕ) (n : ℕ) → n ≤ length prefix → covers (take n prefix) prefix ≡ true
covers-first prefix n h =
    let long : length (take n prefix) ≡ n = omega (arith, length-take n prefix) in
    covers-take (take n prefix) prefix (ap (λ (m : ℕ). take m prefix) long)

-- ---- the order of keys

cmp-less : (a b : ℕ) (xs ys : List ℕ) → a < b → slice_cmp nat_cmp (a ∷ xs) (b ∷ ys) ≡ Less
cmp-less a b xs ys less = let c : nat_cmp a b ≡ Less = grind arith in rw c refl

cmp-more : (a b : ℕ) (xs ys : List ℕ) → b < a → slice_cmp nat_cmp (a ∷ xs) (b ∷ ys) ≡ Greater
cmp-more a b xs ys more = let c : nat_cmp a b ≡ Greater = grind arith in rw c refl

cmp-same : (a b : ℕ) (xs ys : List ℕ) → a ≡ b → slice_cmp nat_cmp (a ∷ xs) (b ∷ ys) ≡ slice_cmp nat_cmp xs ys
cmp-same a b xs ys same = let c : nat_cmp a b ≡ Equal = grind arith in rw c refl

-- what a key covers does not stand before it
pub covers-le : (key at : List ℕ) → covers key at ≡ true → is_le (slice_cmp nat_cmp key at) ≡ true
covers-le [] [] h = refl
covers-le [] (x ∷ at) h = refl
covers-le (k ∷ key) [] h = absurd (true≢false (sym h))
covers-le (k ∷ key) (x ∷ at) h =
    let parts = and_parts (k == x) (bytes_eq key (take (length key) at)) h in
    ap is_le (cmp-same k x key at (eqb-true k x parts.0)) ∙ covers-le key at parts.1

-- what stands between a key and what it covers is covered
pub covers-between : (key middle at : List ℕ) → covers key at ≡ true → is_le (slice_cmp nat_cmp key middle) ≡ true → slice_cmp nat_cmp middle at ≡ Less
    → covers key middle ≡ true
covers-between [] middle at h low high = refl
covers-between (k ∷ key) [] at h low high = absurd (true≢false (sym low))
covers-between (k ∷ key) (m ∷ middle) [] h low high = absurd (true≢false (sym h))
covers-between (k ∷ key) (m ∷ middle) (x ∷ at) h low high =
    let parts = and_parts (k == x) (bytes_eq key (take (length key) at)) h in
    go (eqb-true k x parts.0) (λ first second. covers-between key middle at parts.1 first second) (cases_lt m k) (cases_lt x m)
  where
    differ : Less ≡ Greater → ⊥
    differ e = cc

    go : k ≡ x → (is_le (slice_cmp nat_cmp key middle) ≡ true → slice_cmp nat_cmp middle at ≡ Less → covers key middle ≡ true)
        → (m < k) ⊎ (k ≤ m) → (x < m) ⊎ (m ≤ x) → covers (k ∷ key) (m ∷ middle) ≡ true
    go same rest (inl before) other = absurd (true≢false (sym low ∙ ap is_le (cmp-more k m key middle before)))
    go same rest (inr from) (inl behind) = absurd (differ (sym high ∙ cmp-more m x middle at behind))
    go same rest (inr from) (inr to) =
        let equal : k ≡ m = omega (arith, same) in
        let other : m ≡ x = omega (arith, same) in
        and_from (k == m) (covers key middle) (eq-eqb k m equal)
        (rest (ap is_le (sym (cmp-same k m key middle equal)) ∙ low) (sym (cmp-same m x middle at other) ∙ high))
