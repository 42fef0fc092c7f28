-- Down the pieces of two maps, side by side.
use Rattle.std.proofs.Common.{◌≡◌, ◌≢◌, ℕ, suc, ◌+◌, ◌<◌, ◌≤◌, true, List, [], ◌∷◌, ◌++◌, map, refl, sym, ap, ◌∙◌, subst, arith, append_assoc, nat_eq, Option, Some, None, inl, inr}
use Rattle.std.specs.List.{AllByRecursion}
use Rattle.std.specs.List.Sorted.{IsStrictlySortedBy}
use Rattle.std.specs.FinMap as finite
use Rattle.std.specs.Ordering.{nat_cmp, ordering_then}
use Rattle.std.specs.Cmp.{nat_cmp_is}
use Rattle.std.specs.Cmp.Lexicographic.{slice_cmp}
use Rattle.std.specs.declared.cmp.Ordering.TheVariants.{Less, Equal}
use Rattle.std.proofs.lemmas.Bool.{true≢false, and_parts, eqb-true}
use Rattle.std.proofs.lemmas.List.{append-nil}
use Rattle.std.proofs.lemmas.List.Concat.{flat_map-append}
use Rattle.saw_address.specs.Maps.{StateMap}
use Rattle.saw_address.specs.Prefixes.{covers}
use Rattle.saw_messages.specs.declared.outcome.Change.{Change}
use Rattle.saw_runs.specs.Below.{read_by}
use Rattle.saw_runs.specs.Differing.{AddsDifference, Begins, BeginsFrom, Differ, IsBelow, IsDifference, IsFirst, Lead, Takes, changes_at, entries_of, part_of, set_for}
use Rattle.saw_runs.specs.Entries.{Entry, IsRead}
use Rattle.saw_runs.specs.Listing.{entry_at, opened_by, read_below}
use Rattle.saw_runs.specs.Readings.{entry_value}
use Rattle.saw_runs.specs.Told.{IsRootOf}
use Rattle.saw_runs.proofs.Between.{difference_is, differ-append, differ_as, differ_at, differ_none}
use Rattle.saw_runs.proofs.Descending.{read_under_place}
use Rattle.saw_runs.proofs.InOrder.{less_is}
use Rattle.saw_runs.proofs.Local.{covers-shorter}
use Rattle.saw_runs.proofs.OneMap.{read_all-root}

-- ---- addresses below a place by their next byte

byte_order : (place : List ℕ) (b c : ℕ) (x y : List ℕ) → b < c → covers (place ++ b ∷ []) x ≡ true → covers (place ++ c ∷ []) y ≡ true
    → slice_cmp nat_cmp x y ≡ Less
byte_order [] b c [] y lt one two = absurd (true≢false (sym one))
byte_order [] b c (a ∷ x) [] lt one two = absurd (true≢false (sym two))
byte_order [] b c (a ∷ x) (d ∷ y) lt one two =
    let first = eqb-true b a (and_parts (nat_eq b a) (covers [] x) one).0 in
    let second = eqb-true c d (and_parts (nat_eq c d) (covers [] y) two).0 in
    ap (λ o. ordering_then o (slice_cmp nat_cmp x y)) (sym (nat_cmp_is a d Less (omega (arith, lt, first, second))))
byte_order (p ∷ place) b c [] y lt one two = absurd (true≢false (sym one))
byte_order (p ∷ place) b c (a ∷ x) [] lt one two = absurd (true≢false (sym two))
byte_order (p ∷ place) b c (a ∷ x) (d ∷ y) lt one two =
    let first = and_parts (nat_eq p a) (covers (place ++ b ∷ []) x) one in
    let second = and_parts (nat_eq p d) (covers (place ++ c ∷ []) y) two in
    let same : a ≡ d = sym (eqb-true p a first.0) ∙ eqb-true p d second.0 in
    ap (λ o. ordering_then o (slice_cmp nat_cmp x y)) (sym (nat_cmp_is a d Equal same)) ∙ byte_order place b c x y lt first.1 second.1

-- it goes on with a byte below this one
abbrev IsLow : List ℕ → ℕ → List ℕ → Type 0
IsLow place bound q = (b : ℕ) × (b < bound) × (covers (place ++ b ∷ []) q ≡ true)

-- what is read by a run lies below the place
part_under : (read : List ℕ → Option Entry) (levels : ℕ) (place : List ℕ) (part : Option (List ℕ × List ℕ))
    → AllByRecursion (λ e. IsBelow place e.0) (read_by read levels place part)
part_under read levels place None = tt
part_under read levels place (Some run) = read_under_place read levels place run.0 run.1

-- ---- the kids in step

abbrev pub AreByBytes : List Lead → Type 0
AreByBytes kids = IsStrictlySortedBy nat_cmp (map (λ (kid : Lead). kid.0) kids)

-- what lies before these kids is done
pub record Walked (read : List ℕ → Option Entry) (levels : ℕ) (place : List ℕ) (from to : Option (List ℕ × List ℕ)) (left_first left_second : List Lead)
    (old now : List Change) : Type 0 where
  pub done_first : List Lead
  pub done_second : List Lead
  pub has_first : read_by read (suc levels) place from ≡ entries_of read levels place (done_first ++ left_first)
  pub has_second : read_by read (suc levels) place to ≡ entries_of read levels place (done_second ++ left_second)
  pub bound : ℕ
  pub rising_first : AreByBytes left_first
  pub rising_second : AreByBytes left_second
  pub from_first : BeginsFrom bound left_first
  pub from_second : BeginsFrom bound left_second
  pub more : List Change
  pub grown : now ≡ old ++ more
  pub differ : Differ (IsLow place bound) (entries_of read levels place done_first) (entries_of read levels place done_second) more

from_zero : (kids : List Lead) → BeginsFrom 0 kids
from_zero [] = tt
from_zero (kid ∷ kids) = omega arith

from_above : (b : ℕ) (kids : List Lead) → AllByRecursion (λ y. nat_cmp b y ≡ Less) (map (λ (kid : Lead). kid.0) kids) → BeginsFrom (b + 1) kids
from_above b [] all = tt
from_above b (kid ∷ kids) all = let lt : b < kid.0 = less_is b kid.0 all.0 in omega (arith, lt)

-- kids that are taken from the front
record Taken (read : List ℕ → Option Entry) (levels : ℕ) (place : List ℕ) (b : ℕ) (kids : List Lead) (part : Option (List ℕ × List ℕ)) (rest : List Lead)
    : Type 0 where
  taken : List Lead
  is : kids ≡ taken ++ rest
  have : entries_of read levels place taken ≡ read_by read levels (place ++ b ∷ []) part
  rising : AreByBytes rest
  from_next : BeginsFrom (b + 1) rest

module _ (read : List ℕ → Option Entry) (levels : ℕ) (place : List ℕ) (b : ℕ) where
  past : (kids : List Lead) → BeginsFrom b kids → (Begins b kids → ⊥) → BeginsFrom (b + 1) kids
  past [] low other = tt
  past (kid ∷ kids) low other = omega (arith, low, other)

  takes : (kids rest : List Lead) (part : Option (List ℕ × List ℕ)) → AreByBytes kids → BeginsFrom b kids → Takes b kids part rest
      → Taken read levels place b kids part rest
  unfolding IsStrictlySortedBy
  takes kids rest part rising low none_or_one = elim none_or_one [
    | inl none ↦ record {
      taken = [];
      is = sym none.2;
      have = ap (read_by read levels (place ++ b ∷ [])) (sym none.1);
      rising = subst AreByBytes (sym none.2) rising;
      from_next = subst (BeginsFrom (b + 1)) (sym none.2) (past kids low none.0);
    }
    | inr one ↦
        let sorted : AreByBytes ((b, part) ∷ rest) = subst AreByBytes one rising in record {
          taken = (b, part) ∷ [];
          is = one;
          have = append-nil (read_by read levels (place ++ b ∷ []) part);
          rising = sorted.1;
          from_next = from_above b rest sorted.0;
        }
  ]

  -- the bound is not above the first byte
  bound_low : (bound : ℕ) (kids : List Lead) → BeginsFrom bound kids → Begins b kids → bound ≤ b
  bound_low bound [] low begins = absurd begins
  bound_low bound (kid ∷ kids) low begins = omega (arith, low, begins)

module _ (read : List ℕ → Option Entry) (levels : ℕ) (place : List ℕ) (from to : Option (List ℕ × List ℕ)) (old : List Change) where
  pub walk_start : (firsts seconds : List Lead) → read_by read (suc levels) place from ≡ entries_of read levels place firsts
      → read_by read (suc levels) place to ≡ entries_of read levels place seconds → AreByBytes firsts → AreByBytes seconds
      → Walked read levels place from to firsts seconds old old
  walk_start firsts seconds has_first has_second first second = record {
    done_first = [];
    done_second = [];
    has_first = has_first;
    has_second = has_second;
    bound = 0;
    rising_first = first;
    rising_second = second;
    from_first = from_zero firsts;
    from_second = from_zero seconds;
    more = [];
    grown = sym (append-nil old);
    differ = differ_none (IsLow place 0) [] tt;
  }

  pub walk_on : (left_first left_second rest_first rest_second : List Lead) (b : ℕ) (one two : Option (List ℕ × List ℕ)) (now next : List Change)
      → Walked read levels place from to left_first left_second old now → IsFirst b left_first left_second
      → Takes b left_first one rest_first → Takes b left_second two rest_second
      → AddsDifference read levels (place ++ b ∷ []) one two now next
      → Walked read levels place from to rest_first rest_second old next
  walk_on left_first left_second rest_first rest_second b one two now next walked first takes_first takes_second adds =
      let of_first = takes read levels place b left_first rest_first one walked.rising_first first.of_first takes_first in
      let of_second = takes read levels place b left_second rest_second two walked.rising_second first.of_second takes_second in
      let low : walked.bound ≤ b = elim first.begins [
        | inl begins ↦ bound_low read levels place b walked.bound left_first walked.from_first begins
        | inr begins ↦ bound_low read levels place b walked.bound left_second walked.from_second begins
      ] in
      let both_first : entries_of read levels place walked.done_first ++ read_by read levels (place ++ b ∷ []) one
      ≡ entries_of read levels place (walked.done_first ++ of_first.taken) =
      ap (λ es. entries_of read levels place walked.done_first ++ es) (sym of_first.have) ∙ sym (flat_map-append _ walked.done_first of_first.taken) in
      let both_second : entries_of read levels place walked.done_second ++ read_by read levels (place ++ b ∷ []) two
      ≡ entries_of read levels place (walked.done_second ++ of_second.taken) =
      ap (λ es. entries_of read levels place walked.done_second ++ es) (sym of_second.have) ∙ sym (flat_map-append _ walked.done_second of_second.taken) in
      let differ : Differ (IsLow place (b + 1)) (entries_of read levels place walked.done_first ++ read_by read levels (place ++ b ∷ []) one)
      (entries_of read levels place walked.done_second ++ read_by read levels (place ++ b ∷ []) two) (walked.more ++ adds.more) =
      differ-append (IsLow place walked.bound) (IsBelow (place ++ b ∷ []))
      (λ x y below at. let lt = below.1 in byte_order place below.0 b x y (omega (arith, lt, low)) below.2 at)
      (entries_of read levels place walked.done_first) (entries_of read levels place walked.done_second) walked.more
      (read_by read levels (place ++ b ∷ []) one) (read_by read levels (place ++ b ∷ []) two) adds.more walked.differ adds.differ
      (IsLow place (b + 1)) (λ q below. let lt = below.1 in (below.0, omega (arith, lt, low), below.2)) (λ q at. (b, omega arith, at)) in
      record {
        done_first = walked.done_first ++ of_first.taken;
        done_second = walked.done_second ++ of_second.taken;
        has_first = walked.has_first ∙ ap (entries_of read levels place) (ap (λ kids. walked.done_first ++ kids) of_first.is
            ∙ sym (append_assoc walked.done_first of_first.taken rest_first));
        has_second = walked.has_second ∙ ap (entries_of read levels place) (ap (λ kids. walked.done_second ++ kids) of_second.is
            ∙ sym (append_assoc walked.done_second of_second.taken rest_second));
        bound = b + 1;
        rising_first = of_first.rising;
        rising_second = of_second.rising;
        from_first = of_first.from_next;
        from_second = of_second.from_next;
        more = walked.more ++ adds.more;
        grown = adds.grown ∙ ap (λ xs. xs ++ adds.more) walked.grown ∙ append_assoc old walked.more adds.more;
        differ = subst (λ es. Differ (IsLow place (b + 1)) es (entries_of read levels place (walked.done_second ++ of_second.taken)) (walked.more ++ adds.more))
            both_first
            (subst (λ fs. Differ (IsLow place (b + 1)) (entries_of read levels place walked.done_first ++ read_by read levels (place ++ b ∷ []) one) fs
            (walked.more ++ adds.more)) both_second differ);
      }

  pub walk_end : (now : List Change) (above : ℕ) → above ≡ suc levels → Walked read levels place from to [] [] old now
      → AddsDifference read above place from to old now
  walk_end now above up walked =
      let first : entries_of read levels place walked.done_first ≡ read_by read above place from =
      sym (walked.has_first ∙ ap (entries_of read levels place) (append-nil walked.done_first)) ∙ ap (λ n. read_by read n place from) (sym up) in
      let second : entries_of read levels place walked.done_second ≡ read_by read above place to =
      sym (walked.has_second ∙ ap (entries_of read levels place) (append-nil walked.done_second)) ∙ ap (λ n. read_by read n place to) (sym up) in
      record {
        more = walked.more;
        grown = walked.grown;
        differ = differ_as (IsLow place walked.bound) (IsBelow place) (λ q below. covers-shorter place (below.0 ∷ []) q below.2) _ _ walked.more
            (subst (λ es. Differ (IsLow place walked.bound) es (read_by read above place to) walked.more) first
            (subst (λ fs. Differ (IsLow place walked.bound) (entries_of read levels place walked.done_first) fs walked.more) second walked.differ));
      }

-- ---- the ends of the walk

-- of no run, or of one with bytes, there is no leaf
pub no_leaf : (read : List ℕ → Option Entry) (path : List ℕ) (bottom : Option (List ℕ)) → path ≢ [] → (place : List ℕ)
    → [] ≡ read_by read 0 place (part_of path bottom)
unfolding read_below
no_leaf read path None some place = refl
no_leaf read [] (Some bottom) some place = absurd (some refl)
no_leaf read (c ∷ path) (Some bottom) some place = refl

pub one_leaf : (read : List ℕ → Option Entry) (path : List ℕ) (bottom : List ℕ) (o : Option (List ℕ)) → path ≡ [] → o ≡ entry_value (read bottom) → (place : List ℕ)
    → entry_at place o ≡ read_by read 0 place (part_of path (Some bottom))
unfolding read_below
one_leaf read path bottom o none is place = ap (entry_at place) is ∙ ap (λ p. read_by read 0 place (part_of p (Some bottom))) (sym none)

-- nothing changes between one run and itself
pub same_part : (read : List ℕ → Option Entry) (levels : ℕ) (place : List ℕ) (first second : Option (List ℕ × List ℕ)) (old : List Change)
    → first ≡ second → AddsDifference read levels place first second old old
same_part read levels place first second old same = record {
  more = [];
  grown = sym (append-nil old);
  differ = subst (λ part. Differ (IsBelow place) (read_by read levels place first) (read_by read levels place part) []) same
      (differ_none (IsBelow place) (read_by read levels place first) (part_under read levels place first));
}

-- at an address
pub leaf_part : (read : List ℕ → Option Entry) (levels : ℕ) (place : List ℕ) (first second : Option (List ℕ × List ℕ)) (o p : Option (List ℕ))
    (old new : List Change) → levels ≡ 0 → entry_at place o ≡ read_by read 0 place first → entry_at place p ≡ read_by read 0 place second
    → new ≡ old ++ changes_at place (set_for o p) → AddsDifference read levels place first second old new
leaf_part read levels place first second o p old new low one two grown = record {
  more = changes_at place (set_for o p);
  grown = grown;
  differ = subst (λ n. Differ (IsBelow place) (read_by read n place first) (read_by read n place second) (changes_at place (set_for o p))) (sym low)
      (subst (λ es. Differ (IsBelow place) es (read_by read 0 place second) (changes_at place (set_for o p))) one
      (subst (λ fs. Differ (IsBelow place) (entry_at place o) fs (changes_at place (set_for o p))) two (differ_at place o p)));
}

-- between two roots
pub root_difference : (read : List ℕ → Option Entry) (from to : List ℕ) (first second : Option (List ℕ × List ℕ)) (changes : List Change)
    → first ≡ Some (opened_by from (read from)) → second ≡ Some (opened_by to (read to)) → AddsDifference read 35 [] first second [] changes
    → (hash : List ℕ → List ℕ) (m n : StateMap) → IsRootOf hash (IsRead read) m from → IsRootOf hash (IsRead read) n to → IsDifference m n changes
root_difference read from to first second changes of_first of_second adds hash m n is_from is_to =
    let es : read_by read 35 [] first ≡ finite.entries m = ap (read_by read 35 []) of_first ∙ read_all-root hash read m from is_from in
    let fs : read_by read 35 [] second ≡ finite.entries n = ap (read_by read 35 []) of_second ∙ read_all-root hash read n to is_to in
    difference_is (IsBelow []) m n changes
    (subst (λ xs. Differ (IsBelow []) (finite.entries m) (finite.entries n) xs) (sym adds.grown)
    (subst (λ xs. Differ (IsBelow []) xs (finite.entries n) adds.more) es
    (subst (λ ys. Differ (IsBelow []) (read_by read 35 [] first) ys adds.more) fs adds.differ)))
