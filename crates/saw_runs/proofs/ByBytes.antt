-- Entries in the order of their addresses, parted by the byte behind a place.
use Rattle.std.proofs.Common.{◌≡◌, ℕ, zero, suc, ◌+◌, ◌<◌, ◌≤◌, Bool, true, false, cond, ◌||◌, List, [], ◌∷◌, ◌++◌, length, get_or, refl, sym, ap, ◌∙◌, subst, arith, nat_eq, nat_lt, inl, inr}
use Rattle.std.specs.Prelude.{T, ◌&&◌}
use Rattle.std.specs.List.{AllByRecursion, filter, flat_map, list_all, range_with_len}
use Rattle.std.specs.Ordering.{nat_cmp, is_lt, ordering_then}
use Rattle.std.specs.Cmp.{nat_cmp_is}
use Rattle.std.specs.Cmp.Lexicographic.{slice_cmp}
use Rattle.std.specs.FinMap.Entries.{below_all, is_sorted, is_sorted-where_key}
use Rattle.std.specs.declared.cmp.Ordering.TheVariants.{Equal, Greater}
use Rattle.std.proofs.lemmas.Bool.{true≢false, cases_order, or_cases, or_left, or_right, and_parts, both_ways, eqb-true, eq-eqb, ne_eqb, false_from_ne_true}
use Rattle.saw_address.specs.Maps.{Entries, is_address}
use Rattle.saw_address.specs.Prefixes.{covers}
use Rattle.saw_context.proofs.Each.{all_weaker}
use Rattle.saw_context.proofs.Keys.{both_of}
use Rattle.saw_node.specs.Trees.{all_bytes}
use Rattle.saw_node.proofs.Places.{covers_parts, has_byte-get_or}
use Rattle.saw_address.proofs.Digits.{length-is_address}
use Rattle.saw_runs.proofs.Nexts.{small_at}

-- ---- lists and tests

pub all_each : {X : Type 0} (P : X → Type 0) → ((x : X) → P x) → (xs : List X) → AllByRecursion P xs
all_each P each [] = tt
all_each P each (x ∷ xs) = (each x, all_each P each xs)

pub all_filtered : {X : Type 0} (P : X → Type 0) (t : X → Bool) (xs : List X) → AllByRecursion P xs → AllByRecursion (λ x. (t x ≡ true) × P x) (filter t xs)
all_filtered P t [] all = tt
all_filtered P t (x ∷ xs) all =
    let rest = all_filtered P t xs all.1 in
    elim (t x) as (λ v. t x ≡ v → AllByRecursion (λ y. (t y ≡ true) × P y) (cond v (x ∷ filter t xs) (filter t xs))) [
      | true ↦ λ e. ((e, all.0), rest)
      | false ↦ λ e. rest
    ] refl

pub filter_keeps : {X : Type 0} (t : X → Bool) (xs : List X) → AllByRecursion (λ x. t x ≡ true) xs → filter t xs ≡ xs
filter_keeps t [] all = refl
filter_keeps t (x ∷ xs) all = λ i. cond (all.0 i) (x ∷ filter_keeps t xs all.1 i) (filter_keeps t xs all.1 i)

pub filter_drops : {X : Type 0} (t : X → Bool) (xs : List X) → AllByRecursion (λ x. t x ≡ false) xs → filter t xs ≡ []
filter_drops t [] all = refl
filter_drops t (x ∷ xs) all = λ i. cond (all.0 i) (x ∷ filter_drops t xs all.1 i) (filter_drops t xs all.1 i)

pub filter_alike : {X : Type 0} (t u : X → Bool) (xs : List X) → AllByRecursion (λ x. t x ≡ u x) xs → filter t xs ≡ filter u xs
filter_alike t u [] all = refl
filter_alike t u (x ∷ xs) all = λ i. cond (all.0 i) (x ∷ filter_alike t u xs all.1 i) (filter_alike t u xs all.1 i)

pub filter_twice : {X : Type 0} (t u : X → Bool) (xs : List X) → filter t (filter u xs) ≡ filter (λ x. u x && t x) xs
filter_twice t u [] = refl
filter_twice t u (x ∷ xs) =
    let rest = filter_twice t u xs in
    elim (u x) as (λ v. filter t (cond v (x ∷ filter u xs) (filter u xs)) ≡ cond (v && t x) (x ∷ filter (λ y. u y && t y) xs) (filter (λ y. u y && t y) xs)) [
      | true ↦ ap (λ zs. cond (t x) (x ∷ zs) zs) rest
      | false ↦ rest
    ]

pub flat_alike : {X A : Type 0} (f g : X → List A) (xs : List X) → AllByRecursion (λ x. f x ≡ g x) xs → flat_map f xs ≡ flat_map g xs
flat_alike f g [] all = refl
flat_alike f g (x ∷ xs) all = λ i. all.0 i ++ flat_alike f g xs all.1 i

-- what gives nothing may be left out
pub flat_map-filter : {X A : Type 0} (f : X → List A) (t : X → Bool) → ((x : X) → t x ≡ false → f x ≡ []) → (xs : List X)
    → flat_map f (filter t xs) ≡ flat_map f xs
flat_map-filter f t none [] = refl
flat_map-filter f t none (x ∷ xs) =
    let rest = flat_map-filter f t none xs in
    elim (t x) as (λ v. t x ≡ v → flat_map f (cond v (x ∷ filter t xs) (filter t xs)) ≡ f x ++ flat_map f xs) [
      | true ↦ λ e. ap (λ ys. f x ++ ys) rest
      | false ↦ λ e. rest ∙ ap (λ ys. ys ++ flat_map f xs) (sym (none x e))
    ] refl

-- none that passes the first test stands behind one that passes the second
abbrev Before : {X : Type 0} → (X → Bool) → (X → Bool) → List X → Type 0
Before t u [] = Unit {0}
Before t u (x ∷ xs) = (u x ≡ true → AllByRecursion (λ y. t y ≡ false) xs) × Before t u xs

filter_parts : {X : Type 0} (t u : X → Bool) → ((x : X) → t x ≡ true → u x ≡ false) → (xs : List X) → Before t u xs
    → filter t xs ++ filter u xs ≡ filter (λ x. t x || u x) xs
filter_parts t u apart [] b = refl
filter_parts t u apart (x ∷ xs) b =
    let rest = filter_parts t u apart xs b.1 in
    let step : (v w : Bool) → t x ≡ v → u x ≡ w → cond v (x ∷ filter t xs) (filter t xs) ++ cond w (x ∷ filter u xs) (filter u xs)
    ≡ cond (v || w) (x ∷ filter (λ y. t y || u y) xs) (filter (λ y. t y || u y) xs) =
    elim [
      | true ↦ elim [
        | true ↦ λ first second. absurd (both_ways (u x) (apart x first) second)
        | false ↦ λ first second. ap (λ ys. x ∷ ys) rest
      ]
      | false ↦ elim [
        | true ↦ λ first second.
            let none = filter_drops t xs (b.0 second) in
            ap (λ ys. ys ++ x ∷ filter u xs) none ∙ ap (λ ys. x ∷ ys) (ap (λ ys. ys ++ filter u xs) (sym none) ∙ rest)
        | false ↦ λ first second. rest
      ]
    ] in
    step (t x) (u x) refl refl

-- ---- bytes that rise

-- the byte of an entry's address
abbrev pub byte_in : ℕ → List ℕ × List ℕ → ℕ
byte_in depth e = get_or e.0 depth 0

-- no byte is less than one before it
abbrev Rise : ℕ → Entries → Type 0
Rise depth [] = Unit {0}
Rise depth (e ∷ es) = AllByRecursion (λ f. byte_in depth e ≤ byte_in depth f) es × Rise depth es

-- one of so many numbers from the first on
is_within : ℕ → ℕ → ℕ → Bool
is_within a zero x = false
is_within a (suc n) x = nat_eq a x || is_within (a + 1) n x

within_low : (a n x : ℕ) → is_within a n x ≡ true → a ≤ x
unfolding is_within
within_low a zero x h = absurd (true≢false (sym h))
within_low a (suc n) x h = elim (or_cases (nat_eq a x) (is_within (a + 1) n x) h) [
  | inl here ↦ let same = eqb-true a x here in omega (arith, same)
  | inr later ↦ let low = within_low (a + 1) n x later in omega (arith, low)
]

within_is : (a n x : ℕ) → a ≤ x → x < a + n → is_within a n x ≡ true
unfolding is_within
within_is a zero x low high = absurd (omega (arith, low, high))
within_is a (suc n) x low high = elim (cases_order a x) [
  | inl same ↦ or_left (nat_eq a x) (is_within (a + 1) n x) (eq-eqb a x same)
  | inr other ↦ or_right (nat_eq a x) (is_within (a + 1) n x) (elim other [
    | inl less ↦ within_is (a + 1) n x (omega (arith, less)) (omega (arith, high))
    | inr more ↦ absurd (omega (arith, more, low))
  ])
]

-- entries by rising bytes, byte by byte
by_range : (depth a n : ℕ) (es : Entries) → Rise depth es
    → flat_map (λ b. filter (λ e. nat_eq b (byte_in depth e)) es) (range_with_len a n) ≡ filter (λ e. is_within a n (byte_in depth e)) es
unfolding is_within
by_range depth a zero es rise = sym (filter_drops (λ e. false) es (all_each (λ e. false ≡ false) (λ e. refl) es))
by_range depth a (suc n) es rise =
    ap (λ ys. filter (λ e. nat_eq a (byte_in depth e)) es ++ ys) (by_range depth (a + 1) n es rise)
    ∙ filter_parts (λ e. nat_eq a (byte_in depth e)) (λ e. is_within (a + 1) n (byte_in depth e)) apart es (before es rise)
  where
    apart : (e : List ℕ × List ℕ) → nat_eq a (byte_in depth e) ≡ true → is_within (a + 1) n (byte_in depth e) ≡ false
    apart e here = false_from_ne_true _ (λ later.
        let same = eqb-true a (byte_in depth e) here in
        let low = within_low (a + 1) n (byte_in depth e) later in
        omega (arith, same, low))

    before : (fs : Entries) → Rise depth fs → Before (λ e. nat_eq a (byte_in depth e)) (λ e. is_within (a + 1) n (byte_in depth e)) fs
    before [] up = tt
    before (f ∷ fs) up = (
      λ later. all_weaker (λ g. byte_in depth f ≤ byte_in depth g) (λ g. nat_eq a (byte_in depth g) ≡ false)
          (λ g le. let low = within_low (a + 1) n (byte_in depth f) later in ne_eqb a (byte_in depth g) (λ same. omega (arith, le, low, same))) fs up.0,
      before fs up.1,
    )

-- ---- addresses in order

-- of two addresses below a place the lesser one goes on with no greater byte
byte_rises : (place x y : List ℕ) → T (is_lt (slice_cmp nat_cmp x y)) → covers place x ≡ true → covers place y ≡ true → length place < length y
    → get_or x (length place) 0 ≤ get_or y (length place) 0
byte_rises [] [] y less one two long = omega arith
byte_rises [] (a ∷ x) [] less one two long = absurd (omega (arith, long))
byte_rises [] (a ∷ x) (b ∷ y) less one two long = elim (cases_order a b) [
  | inl same ↦ omega (arith, same)
  | inr other ↦ elim other [
    | inl lt ↦ omega (arith, lt)
    | inr gt ↦ absurd (subst (λ o. T (is_lt (ordering_then o (slice_cmp nat_cmp x y)))) (sym (nat_cmp_is a b Greater gt)) less)
  ]
]
byte_rises (p ∷ place) [] y less one two long = absurd (true≢false (sym one))
byte_rises (p ∷ place) (a ∷ x) [] less one two long = absurd (true≢false (sym two))
byte_rises (p ∷ place) (a ∷ x) (b ∷ y) less one two long =
    let first = and_parts (nat_eq p a) (covers place x) one in
    let second = and_parts (nat_eq p b) (covers place y) two in
    let same : a ≡ b = sym (eqb-true p a first.0) ∙ eqb-true p b second.0 in
    byte_rises place x y (subst (λ o. T (is_lt (ordering_then o (slice_cmp nat_cmp x y)))) (sym (nat_cmp_is a b Equal same)) less) first.1 second.1
    (omega (arith, long))

-- an entry below a place, and longer
abbrev IsLonger : List ℕ → List ℕ × List ℕ → Type 0
IsLonger place e = (covers place e.0 ≡ true) × (is_address e.0 ≡ true)

small_of : (q : List ℕ) (i : ℕ) → is_address q ≡ true → i < 35 → get_or q i 0 < 256
small_of q i is lt =
    let size = length-is_address q is in
    small_at q i (and_parts (nat_eq (length q) 35) (list_all (λ b. nat_lt b 256) q) is).1 (omega (arith, size, lt))

module _ (place : List ℕ) (short : length place < 35) where
  above_first : (e : List ℕ × List ℕ) (es : Entries) → IsLonger place e → T (below_all (slice_cmp nat_cmp) e.0 es) → AllByRecursion (IsLonger place) es
      → AllByRecursion (λ f. byte_in (length place) e ≤ byte_in (length place) f) es
  above_first e [] is below all = tt
  above_first e (f ∷ es) is below all =
      let parts = both_of (is_lt (slice_cmp nat_cmp e.0 f.0)) (below_all (slice_cmp nat_cmp) e.0 es) below in
      let size = length-is_address f.0 all.0.1 in
      (byte_rises place e.0 f.0 parts.0 is.0 all.0.0 (omega (arith, size, short)), above_first e es is parts.1 all.1)

  rises : (es : Entries) → T (is_sorted (slice_cmp nat_cmp) es) → AllByRecursion (IsLonger place) es → Rise (length place) es
  rises [] sorted all = tt
  rises (e ∷ es) sorted all =
      let parts = both_of (below_all (slice_cmp nat_cmp) e.0 es) (is_sorted (slice_cmp nat_cmp) es) sorted in
      (above_first e es all.0 parts.0 all.1, rises es parts.1 all.1)

  -- the entries below a place are those below each longer one, byte by byte
  pub by_bytes : (es : Entries) → T (is_sorted (slice_cmp nat_cmp) es) → AllByRecursion (λ e. is_address e.0 ≡ true) es
      → flat_map (λ b. filter (λ e. covers (place ++ b ∷ []) e.0) es) all_bytes ≡ filter (λ e. covers place e.0) es
  unfolding all_bytes
  by_bytes es sorted are =
      let xs = filter (λ (e : List ℕ × List ℕ). covers place e.0) es in
      let all = all_filtered (λ (e : List ℕ × List ℕ). is_address e.0 ≡ true) (λ e. covers place e.0) es are in
      flat_alike (λ b. filter (λ e. covers (place ++ b ∷ []) e.0) es) (λ b. filter (λ e. nat_eq b (byte_in (length place) e)) xs) (range_with_len 0 256)
      (all_each _ each (range_with_len 0 256))
      ∙ by_range (length place) 0 256 xs (rises xs (is_sorted-where_key (slice_cmp nat_cmp) (covers place) es sorted) all)
      ∙ filter_keeps (λ e. is_within 0 256 (byte_in (length place) e)) xs
      (all_weaker (IsLonger place) (λ e. is_within 0 256 (byte_in (length place) e) ≡ true)
      (λ e is. within_is 0 256 (byte_in (length place) e) (omega arith) (let small = small_of e.0 (length place) is.1 short in omega (arith, small))) xs all)
    where
      each : (b : ℕ) → filter (λ e. covers (place ++ b ∷ []) e.0) es ≡ filter (λ e. nat_eq b (byte_in (length place) e)) (filter (λ e. covers place e.0) es)
      each b =
          filter_alike (λ e. covers (place ++ b ∷ []) e.0) (λ e. covers place e.0 && nat_eq b (byte_in (length place) e)) es
          (all_weaker (λ e. is_address e.0 ≡ true) _ (λ e is.
          let size = length-is_address e.0 is in
          covers_parts place (b ∷ []) e.0 ∙ ap (λ t. covers place e.0 && t) (has_byte-get_or (length place) b e.0 (omega (arith, size, short)))) es are)
          ∙ sym (filter_twice (λ e. nat_eq b (byte_in (length place) e)) (λ e. covers place e.0) es)
