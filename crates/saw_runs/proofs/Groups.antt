-- Rising changes below a place, by the byte that follows it.
use Rattle.std.proofs.Common.{◌≡◌, ◌≢◌, ℕ, zero, suc, ◌+◌, ◌-◌, ◌<◌, ◌≤◌, true, List, [], ◌∷◌, ◌++◌, length, map, take, drop, get_or, refl, sym, ap, ◌∙◌, arith, nat_eq, inl, inr}
use Rattle.std.specs.Prelude.{◌&&◌}
use Rattle.std.specs.List.{AllByRecursion}
use Rattle.std.specs.List.Sorted.{IsStrictlySortedBy}
use Rattle.std.specs.Ordering.{nat_cmp, ordering_then}
use Rattle.std.specs.Cmp.{nat_cmp_is}
use Rattle.std.specs.Cmp.Lexicographic.{slice_cmp}
use Rattle.std.specs.declared.cmp.Ordering.{Ordering}
use Rattle.std.specs.declared.cmp.Ordering.TheVariants.{Less, Equal, Greater}
use Rattle.std.proofs.Math.Seq.{take-add}
use Rattle.std.proofs.lemmas.Bool.{cases_lt, and_parts, eqb-true, eq-eqb, ne_eqb}
use Rattle.std.proofs.lemmas.List.{get_or-take, get_or-drop, length-drop, length-take-le, length-append}
use Rattle.std.proofs.lemmas.List.Elements.{recursion_from_All, All-from_recursion}
use Rattle.saw_address.specs.Maps.{is_address}
use Rattle.saw_address.specs.Prefixes.{covers}
use Rattle.saw_context.specs.Changed.{AreRising}
use Rattle.saw_messages.specs.declared.outcome.Change.{Change}
use Rattle.saw_node.proofs.Places.{covers_parts, has_byte-get_or}
use Rattle.saw_node.specs.Under.{has_byte}
use Rattle.saw_runs.specs.Places.{Fits, byte_of}
use Rattle.saw_runs.proofs.Changed.{changes_under, under_none}

-- ---- parts of lists

pub all_take : (P : Change → Type 0) (n : ℕ) (xs : List Change) → AllByRecursion P xs → AllByRecursion P (take n xs)
all_take P zero xs h = tt
all_take P (suc n) [] h = tt
all_take P (suc n) (x ∷ xs) h = (h.0, all_take P n xs h.1)

pub all_drop : (P : Change → Type 0) (n : ℕ) (xs : List Change) → AllByRecursion P xs → AllByRecursion P (drop n xs)
all_drop P zero xs h = h
all_drop P (suc n) [] h = tt
all_drop P (suc n) (x ∷ xs) h = all_drop P n xs h.1

all_keys_take : (P : List ℕ → Type 0) (n : ℕ) (xs : List Change) → AllByRecursion P (map (λ change. change.address) xs)
    → AllByRecursion P (map (λ change. change.address) (take n xs))
all_keys_take P zero xs h = tt
all_keys_take P (suc n) [] h = tt
all_keys_take P (suc n) (x ∷ xs) h = (h.0, all_keys_take P n xs h.1)

rising_take : (n : ℕ) (xs : List Change) → AreRising xs → AreRising (take n xs)
unfolding IsStrictlySortedBy
rising_take zero xs h = tt
rising_take (suc n) [] h = tt
rising_take (suc n) (x ∷ xs) h = (all_keys_take _ n xs h.0, rising_take n xs h.1)

rising_drop : (n : ℕ) (xs : List Change) → AreRising xs → AreRising (drop n xs)
unfolding IsStrictlySortedBy
rising_drop zero xs h = h
rising_drop (suc n) [] h = tt
rising_drop (suc n) (x ∷ xs) h = rising_drop n xs h.1

-- ---- the order of the bytes

tied : (n : ℕ) → nat_cmp n n ≡ Equal
tied n = sym (nat_cmp_is n n Equal refl)

not_less : {A : Type 0} → Greater ≡ Less → A
not_less e = absurd cc

lower : (a b : ℕ) (rest : Ordering) → ordering_then (nat_cmp a b) rest ≡ Less → a ≤ b
lower a b rest less = elim (cases_lt b a) [
  | inl lt ↦ not_less (ap (λ r. ordering_then r rest) (nat_cmp_is a b Greater lt) ∙ less)
  | inr le ↦ le
]

byte_rises : (place x y : List ℕ) → covers place x ≡ true → covers place y ≡ true → slice_cmp nat_cmp x y ≡ Less
    → get_or x (length place) 0 ≤ get_or y (length place) 0
byte_rises [] [] y cx cy less = omega arith
byte_rises [] (a ∷ x) [] cx cy less = not_less less
byte_rises [] (a ∷ x) (b ∷ y) cx cy less = lower a b (slice_cmp nat_cmp x y) less
byte_rises (p ∷ place) [] y cx cy less = absurd cc
byte_rises (p ∷ place) (a ∷ x) [] cx cy less = absurd cc
byte_rises (p ∷ place) (a ∷ x) (b ∷ y) cx cy less =
    let one = and_parts (nat_eq p a) (covers place x) cx in
    let two = and_parts (nat_eq p b) (covers place y) cy in
    let same : a ≡ b = sym (eqb-true p a one.0) ∙ eqb-true p b two.0 in
    byte_rises place x y one.1 two.1 (sym (ap (λ r. ordering_then r (slice_cmp nat_cmp x y)) (ap (nat_cmp a) (sym same) ∙ tied a)) ∙ less)

later_bytes : (place : List ℕ) (x : Change) (xs : List Change) (k : ℕ) (d : Change) → covers place x.address ≡ true
    → AllByRecursion (λ change. covers place change.address ≡ true) xs
    → AllByRecursion (λ y. slice_cmp nat_cmp x.address y ≡ Less) (map (λ change. change.address) xs) → k < length xs
    → byte_of (length place) x ≤ byte_of (length place) (get_or xs k d)
later_bytes place x [] k d cx all less lt = absurd (omega (arith, lt))
later_bytes place x (y ∷ xs) zero d cx all less lt = byte_rises place x.address y.address cx all.0 less.0
later_bytes place x (y ∷ xs) (suc k) d cx all less lt = later_bytes place x xs k d cx all.1 less.1 (omega (arith, lt))

-- the bytes behind the place do not fall
pub bytes_rise : (place : List ℕ) (xs : List Change) (j k : ℕ) (d : Change) → AllByRecursion (λ change. covers place change.address ≡ true) xs → AreRising xs
    → j ≤ k → k < length xs → byte_of (length place) (get_or xs j d) ≤ byte_of (length place) (get_or xs k d)
unfolding IsStrictlySortedBy
bytes_rise place [] j k d all rising le lt = absurd (omega (arith, lt))
bytes_rise place (x ∷ xs) zero zero d all rising le lt = omega arith
bytes_rise place (x ∷ xs) zero (suc k) d all rising le lt = later_bytes place x xs k d all.0 all.1 rising.0 (omega (arith, lt))
bytes_rise place (x ∷ xs) (suc j) zero d all rising le lt = absurd (omega (arith, le))
bytes_rise place (x ∷ xs) (suc j) (suc k) d all rising le lt = bytes_rise place xs j k d all.1 rising.1 (omega (arith, le)) (omega (arith, lt))

-- ---- a group

-- whether a change below a place is below the place that is longer by a byte
pub covers_next : (place : List ℕ) (b : ℕ) (change : Change) → covers place change.address ≡ true → length place < length change.address
    → covers (place ++ b ∷ []) change.address ≡ nat_eq b (byte_of (length place) change)
covers_next place b change under long =
    covers_parts place (b ∷ []) change.address ∙ ap (λ t. t && has_byte (length place) b change.address) under
    ∙ has_byte-get_or (length place) b change.address long

-- the changes from i up to e have one byte behind the place, and are all that have it
pub record IsGroup (place : List ℕ) (changes : List Change) (i e b : ℕ) : Type 0 where
  pub within : i < e
  pub ends : e ≤ length changes
  pub same : (k : ℕ) (d : Change) → i ≤ k → k < e → byte_of (length place) (get_or changes k d) ≡ b
  pub before : (k : ℕ) (d : Change) → k < i → byte_of (length place) (get_or changes k d) ≢ b

long_enough : (levels : ℕ) (place : List ℕ) (changes : List Change) (k : ℕ) (d : Change) → Fits (suc levels) place changes → k < length changes
    → length place < length (get_or changes k d).address
long_enough levels place changes k d fits lt =
    let is : is_address (get_or changes k d).address ≡ true = All-from_recursion _ changes fits.are k d lt in
    let size : length (get_or changes k d).address ≡ 35 = eqb-true _ 35 (and_parts _ _ is).0 in
    let deep = fits.deep in
    omega (arith, size, deep)

covers_at : (levels : ℕ) (place : List ℕ) (changes : List Change) (k : ℕ) (d : Change) (c : ℕ) → Fits (suc levels) place changes → k < length changes
    → covers (place ++ c ∷ []) (get_or changes k d).address ≡ nat_eq c (byte_of (length place) (get_or changes k d))
covers_at levels place changes k d c fits lt =
    covers_next place c (get_or changes k d) (All-from_recursion _ changes fits.under k d lt) (long_enough levels place changes k d fits lt)

module _ (levels : ℕ) (place : List ℕ) (changes : List Change) (i e b : ℕ) (fits : Fits (suc levels) place changes)
    (group : IsGroup place changes i e b) where
  abbrev pub members : List Change
  members = take (e - i) (drop i changes)

  pub long_members : length members ≡ e - i
  long_members = let w = group.within in let n = group.ends in length-take-le (e - i) (drop i changes) (omega (arith, w, n, length-drop i changes))

  member_at : (k : ℕ) (d : Change) → k < e - i → get_or members k d ≡ get_or changes (i + k) d
  member_at k d lt = get_or-take (e - i) (drop i changes) k d lt ∙ get_or-drop i changes k d

  -- the changes up to the group's end
  pub take_group : take e changes ≡ take i changes ++ members
  take_group = let w = group.within in let whole : e ≡ i + (e - i) = omega (arith, w) in ap (λ n. take n changes) whole ∙ take-add i (e - i) changes

  pub members_under : AllByRecursion (λ change. covers (place ++ b ∷ []) change.address ≡ true) members
  members_under = recursion_from_All _ members (λ k d lt.
      let w = group.within in let n = group.ends in
      let l : k < e - i = omega (arith, lt, long_members) in
      ap (λ (c : Change). covers (place ++ b ∷ []) c.address) (member_at k d l)
      ∙ covers_at levels place changes (i + k) d b fits (omega (arith, l, w, n))
      ∙ eq-eqb b _ (sym (group.same (i + k) d (omega arith) (omega (arith, l)))))

  -- none of a group is below another byte
  pub none_other : (c : ℕ) → c ≢ b → changes_under (place ++ c ∷ []) members ≡ []
  none_other c other = under_none (place ++ c ∷ []) members (recursion_from_All _ members (λ k d lt.
      let w = group.within in let n = group.ends in
      let l : k < e - i = omega (arith, lt, long_members) in
      ap (λ (x : Change). covers (place ++ c ∷ []) x.address) (member_at k d l)
      ∙ covers_at levels place changes (i + k) d c fits (omega (arith, l, w, n))
      ∙ ne_eqb c _ (λ same. other (same ∙ group.same (i + k) d (omega arith) (omega (arith, l))))))

  -- none before a group is below its byte
  pub none_before : changes_under (place ++ b ∷ []) (take i changes) ≡ []
  none_before = under_none (place ++ b ∷ []) (take i changes) (recursion_from_All _ (take i changes) (λ k d lt.
      let w = group.within in let n = group.ends in
      let size : length (take i changes) ≡ i = length-take-le i changes (omega (arith, w, n)) in
      let l : k < i = omega (arith, lt, size) in
      ap (λ (x : Change). covers (place ++ b ∷ []) x.address) (get_or-take i changes k d l)
      ∙ covers_at levels place changes k d b fits (omega (arith, l, w, n))
      ∙ ne_eqb b _ (λ same. group.before k d l (sym same))))

  -- a group fits below its byte
  pub group_fits : Fits levels (place ++ b ∷ []) members
  group_fits = let deep = fits.deep in record {
    deep = omega (arith, deep, length-append place (b ∷ []));
    under = members_under;
    are = all_take _ (e - i) (drop i changes) (all_drop _ i changes fits.are);
    rising = rising_take (e - i) (drop i changes) (rising_drop i changes fits.rising);
  }
