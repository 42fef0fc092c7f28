-- What follows a place: the next byte of an address, and the next group of changes.
use Rattle.std.proofs.Common.{◌≡◌, ℕ, zero, suc, ◌-◌, ◌<◌, ◌≤◌, true, false, List, [], ◌∷◌, ◌++◌, length, take, drop, get_or, refl, sym, ap, ◌∙◌, subst, arith, nat_eq, nat_lt, Option, Some, None, inl, inr}
use Rattle.std.specs.Prelude.{is_some, ◌&&◌}
use Rattle.std.specs.List.{list_all}
use Rattle.std.specs.FinMap as finite
use Rattle.std.proofs.lemmas.Bool.{true≢false, cases_Bool, both_ways, and_parts, eqb-true, ltb-true, eq-eqb, false_from_ne_true}
use Rattle.std.proofs.lemmas.List.{take_all}
use Rattle.saw_address.specs.Maps.{StateMap, value_at, is_address}
use Rattle.saw_address.specs.Prefixes.{covers}
use Rattle.saw_messages.specs.declared.outcome.Change.{Change}
use Rattle.saw_node.specs.Trees.{has_under}
use Rattle.saw_node.specs.Under.{has_byte}
use Rattle.saw_node.proofs.Places.{covers_parts, has_byte-get_or}
use Rattle.saw_runs.specs.Places.{AreAddressed, EndsGroup, Fits, FitsSome, IsEdge, byte_of}
use Rattle.saw_runs.proofs.Local.{covers-itself, has_from_value, value_from_has}
use Rattle.saw_runs.proofs.Groups.{IsGroup, bytes_rise, group_fits}

pub none_of : {A : Type 0} (o : Option A) → is_some o ≡ false → o ≡ None
none_of None h = refl
none_of (Some x) h = absurd (true≢false h)

-- ---- addresses below a place

pub small_at : (q : List ℕ) (i : ℕ) → list_all (λ b. nat_lt b 256) q ≡ true → i < length q → get_or q i 0 < 256
small_at [] i all lt = absurd (omega (arith, lt))
small_at (x ∷ q) zero all lt = ltb-true x 256 (and_parts (nat_lt x 256) _ all).0
small_at (x ∷ q) (suc i) all lt = small_at q i (and_parts (nat_lt x 256) _ all).1 (omega (arith, lt))

-- some address goes on behind a place that is shorter
pub next_met : (m : StateMap) (place : List ℕ) → AreAddressed m → length place < 35 → has_under (finite.entries m) place ≡ true
    → (b : ℕ) × (b < 256) × (has_under (finite.entries m) (place ++ b ∷ []) ≡ true)
next_met m place are short met =
    let found = value_from_has (finite.entries m) place met in
    let q = found.0 in
    let is : is_address q ≡ true = are q (ap is_some (finite.get-entries m q) ∙ found.2) in
    let parts = and_parts (nat_eq (length q) 35) _ is in
    let size : length q ≡ 35 = eqb-true (length q) 35 parts.0 in
    let long : length place < length q = omega (arith, size, short) in
    let b = get_or q (length place) 0 in
    let under : covers (place ++ b ∷ []) q ≡ true =
    covers_parts place (b ∷ []) q ∙ ap (λ t. t && has_byte (length place) b q) found.1 ∙ has_byte-get_or (length place) b q long ∙ eq-eqb b b refl in
    (b, small_at q (length place) parts.1 long, has_from_value (finite.entries m) (place ++ b ∷ []) q under found.2)

pub covers_same : (place q : List ℕ) → covers place q ≡ true → length q ≡ length place → q ≡ place
covers_same [] [] h e = refl
covers_same [] (y ∷ q) h e = absurd (omega (arith, e))
covers_same (x ∷ place) [] h e = absurd (omega (arith, e))
covers_same (x ∷ place) (y ∷ q) h e =
    let parts = and_parts (nat_eq x y) (covers place q) h in
    let heads : y ≡ x = sym (eqb-true x y parts.0) in
    let tails : q ≡ place = covers_same place q parts.1 (omega (arith, e)) in
    λ i. heads i ∷ tails i

-- at an address there is a node where there is a value
pub has_at : (m : StateMap) (place : List ℕ) → AreAddressed m → length place ≡ 35 → has_under (finite.entries m) place ≡ is_some (value_at m place)
has_at m place are size = elim (cases_Bool (has_under (finite.entries m) place)) [
  | inl met ↦
      let found = value_from_has (finite.entries m) place met in
      let q = found.0 in
      let some : is_some (value_at m q) ≡ true = ap is_some (finite.get-entries m q) ∙ found.2 in
      let long : length q ≡ 35 = eqb-true (length q) 35 (and_parts (nat_eq (length q) 35) _ (are q some)).0 in
      let same : q ≡ place = covers_same place q found.1 (long ∙ sym size) in
      met ∙ sym (ap (λ p. is_some (value_at m p)) (sym same) ∙ some)
  | inr unmet ↦
      unmet ∙ sym (false_from_ne_true _
      (λ some. both_ways _ unmet
      (has_from_value (finite.entries m) place place (covers-itself place) (ap is_some (sym (finite.get-entries m place)) ∙ some))))
]

-- ---- groups

pub next_edge : (depth : ℕ) (changes : List Change) (i e : ℕ) → EndsGroup depth changes i e → IsEdge depth changes e
next_edge depth changes i e group d some lt same =
    let w = group.within in
    group.edge d lt (sym same ∙ group.same (e - 1) d (omega (arith, w)) (omega (arith, w)))

pub is_group : (levels : ℕ) (place : List ℕ) (changes : List Change) (i e : ℕ) (d : Change) → Fits (suc levels) place changes
    → EndsGroup (length place) changes i e → IsEdge (length place) changes i → IsGroup place changes i e (byte_of (length place) (get_or changes i d))
is_group levels place changes i e d fits group edge =
    let w = group.within in
    let n = group.ends in
    let here : (x : Change)
    → byte_of (length place) (get_or changes i x) ≡ byte_of (length place) (get_or changes i d) = λ x. ap (byte_of (length place))
    (same_element changes i x d (omega (arith, w, n))) in
    record {
      within = w;
      ends = n;
      same = λ k x low high. group.same k x low high ∙ here x;
      before = λ k x lt same.
          let one = bytes_rise place changes k (i - 1) x fits.under fits.rising (omega (arith, lt)) (omega (arith, lt, w, n)) in
          let two = bytes_rise place changes (i - 1) i x fits.under fits.rising (omega arith) (omega (arith, w, n)) in
          let three = here x in
          let apart = edge x (omega (arith, lt)) (omega (arith, w, n)) in
          apart (omega (arith, one, two, three, same));
    }
  where
    same_element : (xs : List Change) (k : ℕ) (x y : Change) → k < length xs → get_or xs k x ≡ get_or xs k y
    same_element [] k x y lt = absurd (omega (arith, lt))
    same_element (z ∷ xs) zero x y lt = refl
    same_element (z ∷ xs) (suc k) x y lt = same_element xs k x y (omega (arith, lt))

up : (levels : ℕ) → 0 < levels → suc (levels - 1) ≡ levels
up levels some = omega (arith, some)

-- a group of changes fits below its byte
pub fits_group : (changes : List Change) (levels i e : ℕ) (d : Change) → 0 < levels → FitsSome levels changes → EndsGroup (35 - levels) changes i e
    → IsEdge (35 - levels) changes i
    → FitsSome (levels - 1) (take (e - i) (drop i changes))
fits_group changes levels i e d some fits group edge =
    let place = fits.place in
    let whole : Fits (suc (levels - 1)) place changes = subst (λ n. Fits n place changes) (sym (up levels some)) fits.fits in
    let deep = whole.deep in
    let size : 35 - levels ≡ length place = omega (arith, deep, some) in
    let is = is_group (levels - 1) place changes i e d whole (subst (λ n. EndsGroup n changes i e) size group) (subst (λ n. IsEdge n changes i) size edge) in
    record {
      place = place ++ byte_of (length place) (get_or changes i d) ∷ [];
      fits = group_fits (levels - 1) place changes i e
          (byte_of (length place) (get_or changes i d)) whole is;
    }

pub byte_is_small : (levels b : ℕ) (here : Change) → 0 < levels → is_address here.address ≡ true → b ≡ byte_of (35 - levels) here → b < 256
byte_is_small levels b here some is_one is_byte =
    let parts = and_parts (nat_eq (length here.address) 35) (list_all (λ x. nat_lt x 256) here.address) is_one in
    let size : length here.address ≡ 35 = eqb-true (length here.address) 35 parts.0 in
    let tiny : byte_of (35 - levels) here < 256 = small_at here.address (35 - levels) parts.1 (omega (arith, size, some)) in
    omega (arith, is_byte, tiny)

-- where all changes are one group, they are that group's
pub whole_group : (changes : List Change) (e : ℕ) → length changes ≤ e → take (e - 0) (drop 0 changes) ≡ changes
whole_group changes e all = take_all (e - 0) changes (omega (arith, all))

pub one_fits : (changes : List Change) (levels e : ℕ) (d : Change) → 0 < levels → FitsSome levels changes → EndsGroup (35 - levels) changes 0 e
    → length changes ≤ e → FitsSome (levels - 1) changes
one_fits changes levels e d some fits group all =
    subst (FitsSome (levels - 1)) (whole_group changes e all)
    (fits_group changes levels 0 e d some fits group (λ d least lt same. absurd (omega (arith, least))))
