-- What a number that is added does to the tree.
use Rattle.std.proofs.Common.{◌≡◌, ◌≢◌, ℕ, ◌+◌, ◌<◌, ◌≤◌, Bool, true, false, ◌||◌, ◌==◌, inl, inr, List, [], ◌∷◌, ◌++◌, length, get_or, Option, Some, refl, sym, ap, ◌∙◌, subst, arith, length-append}
use Rattle.std.specs.List.{AllByRecursion, list_any}
use Rattle.std.specs.List.Sorted.{IsStrictlySortedBy}
use Rattle.std.specs.Ordering.{nat_cmp}
use Rattle.std.proofs.lemmas.Bool.{cases_eq, cases_lt, eq-eqb, ne_eqb, or_cases, or_left, or_right, true≢false}
use Rattle.std.proofs.lemmas.List.{get_or_append_left, get_or_past}
use Rattle.saw_address.specs.Prefixes.{covers, overlaps}
use Rattle.saw_machine.specs.Orders.{stands}
use Rattle.saw_machine.proofs.Closure.{stands-after, stands-direct, stands-trans}
use Rattle.saw_predtree.specs.Entries.{AreGiven, Entries, is_given, is_pair, some_overlap, with_entry}
use Rattle.saw_predtree.specs.Places.{Places, met_by, place_at, readers_at, readers_of, tree_from, writer_at, writer_of}
use Rattle.saw_predtree.specs.Puts.{IsWriterAbove, PutsReaders, PutsWriters}
use Rattle.saw_predtree.specs.Searches.{AreWidest, Gathers, IsCovered, IsMet, overlaps_any}
use Rattle.saw_predtree.specs.Thinned.{AreFrom, IsReachIn, IsReachWith, PutsReach}
use Rattle.saw_predtree.specs.Trees.{AreMarked, IsRead, IsTreeOf, IsUnder, IsWritten, Tree, is_in, is_one_of}
use Rattle.saw_predtree.specs.declared.place.Place.{Place}
use Rattle.saw_predtree.specs.declared.place.Usage.TheVariants.{Reads, Writes}
use Rattle.saw_predtree.proofs.Coverings.{covers-trans, overlaps-above}
use Rattle.saw_predtree.proofs.Members.{any-found, any-is}
use Rattle.saw_predtree.proofs.Searching.{meets-reader, meets-writer, met-who}
use Rattle.saw_predtree.proofs.Standing.{stands-agree}

-- ---- small facts

less-other : (i n : ℕ) → i < n → i ≢ n
less-other i n less e = absurd (omega arith)

more-other : (i n : ℕ) → n < i → i ≢ n
more-other i n more e = absurd (omega arith)

-- one that reads meets writers alone
met-reads : (writer : Option ℕ) (readers : List ℕ) (j : ℕ) → is_in (met_by Reads writer readers) j ≡ true → writer ≡ Some j
met-reads writer readers j h = elim (met-who Reads writer [] j h) [
  | inl is ↦ is
  | inr none ↦ absurd (true≢false (sym none))
]

-- two that overlap
overlap-from : (xs ys : List (List ℕ)) (x y : List ℕ) → is_one_of xs x ≡ true → is_one_of ys y ≡ true → overlaps x y ≡ true → some_overlap xs ys ≡ true
overlap-from xs ys x y in_xs in_ys over =
    any-found (λ (p : List ℕ). list_any (λ (o : List ℕ). overlaps p o) ys) xs x in_xs (any-found (λ (o : List ℕ). overlaps x o) ys y in_ys over)

record Overlap (xs ys : List (List ℕ)) : Type 0 where
  left : List ℕ
  right : List ℕ
  in_left : is_one_of xs left ≡ true
  in_right : is_one_of ys right ≡ true
  over : overlaps left right ≡ true

overlap-is : (xs ys : List (List ℕ)) → some_overlap xs ys ≡ true → Overlap xs ys
overlap-is xs ys h =
    let first = any-is (λ (p : List ℕ). list_any (λ (o : List ℕ). overlaps p o) ys) xs h in
    let second = any-is (λ (o : List ℕ). overlaps first.0 o) ys first.2 in
    record { left = first.0; right = second.0; in_left = first.1; in_right = second.1; over = second.2 }

none-overlap : (xs : List (List ℕ)) → some_overlap xs [] ≡ true → true ≡ false
none-overlap xs h = let is = overlap-is xs [] h in sym is.in_right

all-less : (xs : List ℕ) (n : ℕ) → ((j : ℕ) → is_in xs j ≡ true → j < n) → AllByRecursion (λ (j : ℕ). j < n) xs
all-less [] n less = tt
all-less (x ∷ xs) n less = (less x (or_left (x == x) (is_in xs x) (eq-eqb x x refl)), all-less xs n (λ j h. less j (or_right (x == j) (is_in xs j) h)))

get_or-last : (xs : List ℕ) (x : ℕ) → get_or (xs ++ x ∷ []) (length xs) 0 ≡ x
get_or-last [] x = refl
get_or-last (y ∷ xs) x = get_or-last xs x

-- ---- the entry

module _ (w : Entries) (n : ℕ) (inputs outputs : List (List ℕ)) (given : List ℕ) where
  abbrev w2 : Entries
  w2 = with_entry w n inputs outputs given

  inputs-here : w2.inputs n ≡ inputs
  inputs-here = rw (eq-eqb n n refl) refl

  outputs-here : w2.outputs n ≡ outputs
  outputs-here = rw (eq-eqb n n refl) refl

  given-here : w2.given n ≡ given
  given-here = rw (eq-eqb n n refl) refl

  inputs-else : (i : ℕ) → i ≢ n → w2.inputs i ≡ w.inputs i
  inputs-else i other = rw (ne_eqb i n other) refl

  outputs-else : (i : ℕ) → i ≢ n → w2.outputs i ≡ w.outputs i
  outputs-else i other = rw (ne_eqb i n other) refl

  given-else : (i : ℕ) → i ≢ n → w2.given i ≡ w.given i
  given-else i other = rw (ne_eqb i n other) refl

  edge-here : (j : ℕ) → is_given w2 j n ≡ is_in given j
  edge-here j = ap (λ (xs : List ℕ). is_in xs j) given-here

  edge-else : (j i : ℕ) → i ≢ n → is_given w2 j i ≡ is_given w j i
  edge-else j i other = ap (λ (xs : List ℕ). is_in xs j) (given-else i other)

  pair-here : (j : ℕ) → j ≢ n
      → is_pair w2 j n ≡ (some_overlap (w.outputs j) inputs || (some_overlap (w.outputs j) outputs || some_overlap (w.inputs j) outputs))
  pair-here j other = rw (ne_eqb j n other, eq-eqb n n refl) refl

  pair-else : (j i : ℕ) → j ≢ n → i ≢ n → is_pair w2 j i ≡ is_pair w j i
  pair-else j i first second = rw (ne_eqb j n first, ne_eqb i n second) refl

  -- below the new number all stays
  stands-lower : (i j : ℕ) → i < n → stands (is_given w) i j ≡ stands (is_given w2) i j
  stands-lower i j less = stands-agree (is_given w) (is_given w2) n (λ k m lower. sym (edge-else k m (less-other m n lower))) i j less

  -- by whether a number is the new one
  number-cases : (P : ℕ → Type 0) → P n → ((i : ℕ) → i ≢ n → P i) → (i : ℕ) → P i
  number-cases P now before i = elim (cases_eq i n) [
    | inl same ↦ subst P (sym same) now
    | inr other ↦ before i other
  ]

-- ---- the whole step

module _ (places mid new : Places) (lengths new_lengths : List Bool) (reaches new_reaches : List ℕ) (next n : ℕ) (w : Entries) (inputs outputs written read : List (List ℕ))
    (first found given : List ℕ) (from reach : ℕ)
    (tree : IsTreeOf (tree_from places lengths reaches next false) w) (behind : next ≤ n)
    (wide_out : AreWidest outputs [] written) (wide_in : AreWidest inputs written read)
    (one : Gathers Reads (writer_at places) (readers_at places) (overlaps_any read) [] first)
    (two : Gathers Writes (writer_at places) (readers_at places) (overlaps_any written) first found)
    (reach_in : IsReachIn reaches found from) (thin : AreFrom found from given)
    (puts_readers : PutsReaders places mid n written read) (puts_writers : PutsWriters mid new n written)
    (marked : AreMarked new_lengths (writer_at new) (readers_at new))
    (reach_with : IsReachWith from given reach) (puts_reach : PutsReach reaches new_reaches n reach) where
  abbrev w3 : Entries
  w3 = with_entry w n inputs outputs given

  abbrev tree3 : Tree
  tree3 = tree_from new new_lengths new_reaches (n + 1) false

  -- ---- what was found

  found-writer : (at key : List ℕ) (by : ℕ) → writer_at places at ≡ Some by → is_one_of written key ≡ true → overlaps at key ≡ true → is_in found by ≡ true
  found-writer at key by is key_in over =
      two.whole at by (any-found (λ (k : List ℕ). overlaps at k) written key key_in over) (meets-writer Writes (writer_at places at) (readers_at places at) by is)

  found-reader : (at key : List ℕ) (by : ℕ) → is_in (readers_at places at) by ≡ true → is_one_of written key ≡ true → overlaps at key ≡ true → is_in found by ≡ true
  found-reader at key by is key_in over =
      two.whole at by (any-found (λ (k : List ℕ). overlaps at k) written key key_in over) (meets-reader (writer_at places at) (readers_at places at) by is)

  found-first : (at key : List ℕ) (by : ℕ) → writer_at places at ≡ Some by → is_one_of read key ≡ true → overlaps at key ≡ true → is_in found by ≡ true
  found-first at key by is key_in over =
      two.kept by (one.whole at by (any-found (λ (k : List ℕ). overlaps at k) read key key_in over) (meets-writer Reads (writer_at places at) (readers_at places at) by is))

  -- why one was found
  data Why (j : ℕ) : Type 0 where
    wrote_what_is_read : (at key : List ℕ) → writer_at places at ≡ Some j → is_one_of read key ≡ true → overlaps at key ≡ true → Why j
    wrote_what_is_written : (at key : List ℕ) → writer_at places at ≡ Some j → is_one_of written key ≡ true → overlaps at key ≡ true → Why j
    read_what_is_written : (at key : List ℕ) → is_in (readers_at places at) j ≡ true → is_one_of written key ≡ true → overlaps at key ≡ true → Why j

  why-first : (j : ℕ) → IsMet Reads (writer_at places) (readers_at places) (overlaps_any read) j → Why j
  why-first j met =
      let key = any-is (λ (k : List ℕ). overlaps met.at k) read met.passes in
      wrote_what_is_read met.at key.0 (met-reads (writer_at places met.at) (readers_at places met.at) j met.there) key.1 key.2

  why-second : (j : ℕ) → IsMet Writes (writer_at places) (readers_at places) (overlaps_any written) j → Why j
  why-second j met =
      let key = any-is (λ (k : List ℕ). overlaps met.at k) written met.passes in
      elim (met-who Writes (writer_at places met.at) (readers_at places met.at) j met.there) [
        | inl writes ↦ wrote_what_is_written met.at key.0 writes key.1 key.2
        | inr reads ↦ read_what_is_written met.at key.0 reads key.1 key.2
      ]

  why : (j : ℕ) → is_in found j ≡ true → Why j
  why j h = elim (two.sound j h) [
    | inl before ↦ elim (one.sound j before) [
      | inl none ↦ absurd (true≢false (sym none))
      | inr met ↦ why-first j met
    ]
    | inr met ↦ why-second j met
  ]

  found-less : (j : ℕ) → Why j → j < next
  found-less j (wrote_what_is_read at key is key_in over) = (tree.writers at j is).0
  found-less j (wrote_what_is_written at key is key_in over) = (tree.writers at j is).0
  found-less j (read_what_is_written at key is key_in over) = (tree.readers at j is).0

  before-n : (j : ℕ) → is_in found j ≡ true → j < n
  before-n j h = let less = found-less j (why j h) in omega arith

  pair-why : (j : ℕ) → Why j → (some_overlap (w.outputs j) inputs || (some_overlap (w.outputs j) outputs || some_overlap (w.inputs j) outputs)) ≡ true
  pair-why j (wrote_what_is_read at key is key_in over) =
      or_left (some_overlap (w.outputs j) inputs) (some_overlap (w.outputs j) outputs || some_overlap (w.inputs j) outputs)
      (overlap-from (w.outputs j) inputs at key (tree.writers at j is).1 (wide_in.among key key_in) over)
  pair-why j (wrote_what_is_written at key is key_in over) =
      or_right (some_overlap (w.outputs j) inputs) (some_overlap (w.outputs j) outputs || some_overlap (w.inputs j) outputs)
      (or_left (some_overlap (w.outputs j) outputs) (some_overlap (w.inputs j) outputs)
      (overlap-from (w.outputs j) outputs at key (tree.writers at j is).1 (wide_out.among key key_in) over))
  pair-why j (read_what_is_written at key is key_in over) =
      or_right (some_overlap (w.outputs j) inputs) (some_overlap (w.outputs j) outputs || some_overlap (w.inputs j) outputs)
      (or_right (some_overlap (w.outputs j) outputs) (some_overlap (w.inputs j) outputs)
      (overlap-from (w.inputs j) outputs at key (tree.readers at j is).1 (wide_out.among key key_in) over))

  pair-found : (j : ℕ) → is_in found j ≡ true → is_pair w3 j n ≡ true
  pair-found j h = pair-here w n inputs outputs given j (less-other j n (before-n j h)) ∙ pair-why j (why j h)

  -- ---- on whom the new number stands

  up : (i j : ℕ) → i < n → stands (is_given w) i j ≡ true → stands (is_given w3) i j ≡ true
  up i j less on = sym (stands-lower w n inputs outputs given i j less) ∙ on

  on-given : (j : ℕ) → is_in given j ≡ true → stands (is_given w3) n j ≡ true
  on-given j h = stands-direct (is_given w3) j n (before-n j (thin.among j h).1) (edge-here w n inputs outputs given j ∙ h)

  -- on all below the reach that counts
  on-reach : (j : ℕ) → j < from → stands (is_given w3) n j ≡ true
  on-reach j less = elim reach_in [
    | inl none ↦ absurd (omega arith)
    | inr by ↦
        let lower : stands (is_given w) by.by j ≡ true = tree.reached by.by j (rw by.is at less) in
        let large : from ≤ by.by = not-below by.by by.is in
        stands-trans (is_given w3) n by.by j (on-given by.by (thin.whole by.by large by.one)) (up by.by j (before-n by.by by.one) lower)
  ]
    where
      not-below : (m : ℕ) → from ≡ get_or reaches m 0 → from ≤ m
      not-below m is = elim (cases_lt m from) [
        | inl below ↦ let less = stands-after (is_given w) m m (tree.reached m m (rw is at below)) in absurd (omega arith)
        | inr large ↦ large
      ]

  on-found : (by : ℕ) → is_in found by ≡ true → stands (is_given w3) n by ≡ true
  on-found by h = elim (cases_lt by from) [
    | inl below ↦ on-reach by below
    | inr large ↦ on-given by (thin.whole by large h)
  ]

  on-under : (j by : ℕ) → is_in found by ≡ true → IsUnder w j by → stands (is_given w3) n j ≡ true
  on-under j by h under = elim under [
    | inl same ↦ subst (λ (k : ℕ). stands (is_given w3) n k ≡ true) same (on-found by h)
    | inr on ↦ stands-trans (is_given w3) n by j (on-found by h) (up by j (before-n by h) on)
  ]

  under-up : (j by : ℕ) → by < n → IsUnder w j by → IsUnder w3 j by
  under-up j by less under = elim under [
    | inl same ↦ inl same
    | inr on ↦ inr (up by j less on)
  ]

  -- ---- every pair follows

  out-covered : (y : List ℕ) → is_one_of outputs y ≡ true → IsCovered written y
  out-covered y h = elim (wide_out.covering y h) [
    | inl is ↦ is
    | inr none ↦ absurd (true≢false (sym none.one))
  ]

  on-written : (j : ℕ) → Overlap (w.outputs j) outputs → stands (is_given w3) n j ≡ true
  on-written j is =
      let there = tree.written j is.left is.in_left in
      let key = out-covered is.right is.in_right in
      on-under j there.by
      (found-writer there.place key.key there.by there.writer key.one (overlaps-above there.place key.key is.left is.right there.above key.above is.over)) there.under

  on-input : (j : ℕ) → Overlap (w.outputs j) inputs → stands (is_given w3) n j ≡ true
  on-input j is =
      let there = tree.written j is.left is.in_left in
      elim (wide_in.covering is.right is.in_right) [
        | inl key ↦ on-under j there.by
            (found-first there.place key.key there.by there.writer key.one (overlaps-above there.place key.key is.left is.right there.above key.above is.over)) there.under
        | inr key ↦ on-under j there.by
            (found-writer there.place key.key there.by there.writer key.one (overlaps-above there.place key.key is.left is.right there.above key.above is.over)) there.under
      ]

  on-read : (j : ℕ) → Overlap (w.inputs j) outputs → stands (is_given w3) n j ≡ true
  on-read j is =
      let there = tree.read j is.left is.in_left in
      let key = out-covered is.right is.in_right in
      let over : overlaps there.place key.key ≡ true = overlaps-above there.place key.key is.left is.right there.above key.above is.over in
      on-under j there.by
      (elim there.there [
        | inl writes ↦ found-writer there.place key.key there.by writes key.one over
        | inr reads ↦ found-reader there.place key.key there.by reads key.one over
      ])
      there.under

  on-pair : (j : ℕ) → j < n → is_pair w3 j n ≡ true → stands (is_given w3) n j ≡ true
  on-pair j less h =
      let parts = sym (pair-here w n inputs outputs given j (less-other j n less)) ∙ h in
      elim (or_cases (some_overlap (w.outputs j) inputs) (some_overlap (w.outputs j) outputs || some_overlap (w.inputs j) outputs) parts) [
        | inl input ↦ on-input j (overlap-is (w.outputs j) inputs input)
        | inr rest ↦ elim (or_cases (some_overlap (w.outputs j) outputs) (some_overlap (w.inputs j) outputs) rest) [
          | inl output ↦ on-written j (overlap-is (w.outputs j) outputs output)
          | inr reads ↦ on-read j (overlap-is (w.inputs j) outputs reads)
        ]
      ]

  none-later : (j i : ℕ) → n < i → is_pair w3 j i ≡ true → true ≡ false
  none-later j i more h =
      let other = more-other i n more in
      let nothing = tree.later i (omega arith) in
      let no_inputs : w3.inputs i ≡ [] = inputs-else w n inputs outputs given i other ∙ nothing.0 in
      let no_outputs : w3.outputs i ≡ [] = outputs-else w n inputs outputs given i other ∙ nothing.1 in
      elim (or_cases (some_overlap (w3.outputs j) (w3.inputs i)) (some_overlap (w3.outputs j) (w3.outputs i) || some_overlap (w3.inputs j) (w3.outputs i)) h) [
        | inl input ↦ none-overlap (w3.outputs j) (ap (λ (ys : List (List ℕ)). some_overlap (w3.outputs j) ys) (sym no_inputs) ∙ input)
        | inr rest ↦ elim (or_cases (some_overlap (w3.outputs j) (w3.outputs i)) (some_overlap (w3.inputs j) (w3.outputs i)) rest) [
          | inl output ↦ none-overlap (w3.outputs j) (ap (λ (ys : List (List ℕ)). some_overlap (w3.outputs j) ys) (sym no_outputs) ∙ output)
          | inr reads ↦ none-overlap (w3.inputs j) (ap (λ (ys : List (List ℕ)). some_overlap (w3.inputs j) ys) (sym no_outputs) ∙ reads)
        ]
      ]

  pairs-at : (j i : ℕ) → j < i → is_given w3 j i ≡ true → is_pair w3 j i ≡ true
  pairs-at j i less edge = elim (cases_lt i n) [
    | inl lower ↦
        pair-else w n inputs outputs given j i (less-other j n (omega arith)) (less-other i n lower)
        ∙ tree.given.edges.pairs j i less (sym (edge-else w n inputs outputs given j i (less-other i n lower)) ∙ edge)
    | inr above ↦ elim (cases_eq i n) [
      | inl same ↦ subst (λ (k : ℕ). is_pair w3 j k ≡ true) (sym same)
          (pair-found j (thin.among j (sym (edge-here w n inputs outputs given j) ∙ subst (λ (k : ℕ). is_given w3 j k ≡ true) same edge)).1)
      | inr other ↦ absurd (true≢false
          (sym edge ∙ (edge-else w n inputs outputs given j i other ∙ ap (λ (xs : List ℕ). is_in xs j) (tree.later i (omega arith)).2)))
    ]
  ]

  whole-at : (j i : ℕ) → j < i → is_pair w3 j i ≡ true → stands (is_given w3) i j ≡ true
  whole-at j i less pair = elim (cases_lt i n) [
    | inl lower ↦
        up i j lower (tree.given.edges.whole j i less (sym (pair-else w n inputs outputs given j i (less-other j n (omega arith)) (less-other i n lower)) ∙ pair))
    | inr above ↦ elim (cases_eq i n) [
      | inl same ↦ subst (λ (k : ℕ). stands (is_given w3) k j ≡ true) (sym same)
          (on-pair j (omega arith) (subst (λ (k : ℕ). is_pair w3 j k ≡ true) same pair))
      | inr other ↦ absurd (true≢false (none-later j i (further i above other) pair))
    ]
  ]
    where
      further : (k : ℕ) → n ≤ k → k ≢ n → n < k
      further k from_n other = elim (cases_lt n k) [
        | inl more ↦ more
        | inr under ↦ absurd (other (omega arith))
      ]

  are-given : AreGiven w3
  are-given = record {
    earlier = number-cases w n inputs outputs given (λ i. AllByRecursion (λ (j : ℕ). j < i) (w3.given i))
        (rw (given-here w n inputs outputs given) (all-less given n (λ j h. before-n j (thin.among j h).1)))
        (λ i other. rw (given-else w n inputs outputs given i other) (tree.given.earlier i));
    rising = number-cases w n inputs outputs given (λ i. IsStrictlySortedBy nat_cmp (w3.given i))
        (rw (given-here w n inputs outputs given) thin.rising)
        (λ i other. rw (given-else w n inputs outputs given i other) (tree.given.rising i));
    edges = record { pairs = pairs-at; whole = whole-at };
  }

  -- ---- what is kept

  -- where the new number has taken out what stood
  record Above (prefix : List ℕ) : Type 0 where
    place : List ℕ
    above : covers place prefix ≡ true
    writer : writer_at new place ≡ Some n

  above-key : (key prefix : List ℕ) → is_one_of written key ≡ true → covers key prefix ≡ true → Above prefix
  above-key key prefix key_in under =
      let higher : IsWriterAbove new n key = puts_writers.here key key_in in
      record { place = higher.at; above = covers-trans higher.at key prefix higher.above under; writer = higher.writer }

  written-by-n : (j : ℕ) (prefix : List ℕ) → IsUnder w3 j n → Above prefix → IsWritten tree3 w3 j prefix
  written-by-n j prefix under is = record { place = is.place; by = n; above = is.above; writer = is.writer; under = under }

  read-by-n : (j : ℕ) (prefix : List ℕ) → IsUnder w3 j n → Above prefix → IsRead tree3 w3 j prefix
  read-by-n j prefix under is = record { place = is.place; by = n; above = is.above; there = inl is.writer; under = under }

  -- what stands at a place stays, or lies below what is written
  writer-stays : (at : List ℕ) (by : ℕ) → place_at new at ≡ place_at mid at → writer_at places at ≡ Some by → writer_at new at ≡ Some by
  writer-stays at by same is = ap writer_of same ∙ (puts_readers.writers at ∙ is)

  reader-stays : (at : List ℕ) (by : ℕ) → place_at new at ≡ place_at mid at → is_in (readers_at mid at) by ≡ true → is_in (readers_at new at) by ≡ true
  reader-stays at by same is = ap (λ (p : Option Place). is_in (readers_of p) by) same ∙ is

  written-old : (j : ℕ) (prefix : List ℕ) → IsWritten (tree_from places lengths reaches next false) w j prefix → IsWritten tree3 w3 j prefix
  written-old j prefix was = elim (puts_writers.kept was.place) [
    | inl same ↦ record {
      place = was.place;
      by = was.by;
      above = was.above;
      writer = writer-stays was.place was.by same was.writer;
      under = let less = (tree.writers was.place was.by was.writer).0 in under-up j was.by (omega arith) was.under;
    }
    | inr key ↦ written-by-n j prefix
        (inr (on-under j was.by (found-writer was.place key.key was.by was.writer key.one (or_right (covers was.place key.key) (covers key.key was.place) key.above)) was.under))
        (above-key key.key prefix key.one (covers-trans key.key was.place prefix key.above was.above))
  ]

  -- one that reads at a place itself
  read-at : (j by : ℕ) (place prefix : List ℕ) → covers place prefix ≡ true → is_in (readers_at mid place) by ≡ true → IsUnder w3 j by
      → ((key : List ℕ) → is_one_of written key ≡ true → covers key place ≡ true → IsUnder w3 j n) → IsRead tree3 w3 j prefix
  read-at j by place prefix above reads under taken = elim (puts_writers.kept place) [
    | inl same ↦ record { place = place; by = by; above = above; there = inr (reader-stays place by same reads); under = under }
    | inr key ↦ read-by-n j prefix (taken key.key key.one key.above) (above-key key.key prefix key.one (covers-trans key.key place prefix key.above above))
  ]

  read-old-reader : (j by : ℕ) (place prefix : List ℕ) → covers place prefix ≡ true → is_in (readers_at places place) by ≡ true → IsUnder w j by → IsRead tree3 w3 j prefix
  read-old-reader j by place prefix above reads under = elim (puts_readers.kept place by reads) [
    | inl still ↦
        let less = (tree.readers place by reads).0 in
        read-at j by place prefix above still (under-up j by (omega arith) under)
        (λ key key_in over. inr (on-under j by (found-reader place key by reads key_in (or_right (covers place key) (covers key place) over)) under))
    | inr for ↦
        let lower = for.1 in
        let on : IsUnder w3 j n = inr (on-under j by (found-reader place lower.key by reads lower.one (or_left (covers place lower.key) (covers lower.key place) lower.above)) under) in
        read-at j n place prefix above for.0 on (λ key key_in over. on)
  ]

  read-old : (j : ℕ) (prefix : List ℕ) → IsRead (tree_from places lengths reaches next false) w j prefix → IsRead tree3 w3 j prefix
  read-old j prefix was = elim was.there [
    | inl writes ↦
        let is = written-old j prefix (record { place = was.place; by = was.by; above = was.above; writer = writes; under = was.under }) in
        record { place = is.place; by = is.by; above = is.above; there = inl is.writer; under = is.under }
    | inr reads ↦ read-old-reader j was.by was.place prefix was.above reads was.under
  ]

  written-new : (prefix : List ℕ) → is_one_of outputs prefix ≡ true → IsWritten tree3 w3 n prefix
  written-new prefix h = let key = out-covered prefix h in written-by-n n prefix (inl refl) (above-key key.key prefix key.one key.above)

  read-new : (prefix : List ℕ) → is_one_of inputs prefix ≡ true → IsRead tree3 w3 n prefix
  read-new prefix h = elim (wide_in.covering prefix h) [
    | inl key ↦ read-at n n key.key prefix key.above (puts_readers.here key.key key.one) (inl refl) (λ k k_in over. inl refl)
    | inr key ↦ read-by-n n prefix (inl refl) (above-key key.key prefix key.one key.above)
  ]

  -- ---- who stands in the tree

  writers-are : (prefix : List ℕ) (j : ℕ) → writer_at new prefix ≡ Some j → (j < n + 1) × (is_one_of (w3.outputs j) prefix ≡ true)
  writers-are prefix j h = elim (puts_writers.writers prefix j h) [
    | inl before ↦
        let was = tree.writers prefix j (sym (puts_readers.writers prefix) ∙ before) in
        let less = was.0 in
        let other : j ≢ n = less-other j n (omega arith) in
        (omega arith, ap (λ (ps : List (List ℕ)). is_one_of ps prefix) (outputs-else w n inputs outputs given j other) ∙ was.1)
    | inr now ↦
        let same = now.0 in (
          omega arith,
          subst (λ (k : ℕ). is_one_of (w3.outputs k) prefix ≡ true) (sym same)
              (ap (λ (ps : List (List ℕ)). is_one_of ps prefix) (outputs-here w n inputs outputs given) ∙ wide_out.among prefix now.1),
        )
  ]

  readers-are : (prefix : List ℕ) (j : ℕ) → is_in (readers_at new prefix) j ≡ true → (j < n + 1) × (is_one_of (w3.inputs j) prefix ≡ true)
  readers-are prefix j h = elim (puts_readers.only prefix j (puts_writers.readers prefix j h)) [
    | inl before ↦
        let was = tree.readers prefix j before in
        let less = was.0 in
        let other : j ≢ n = less-other j n (omega arith) in
        (omega arith, ap (λ (ps : List (List ℕ)). is_one_of ps prefix) (inputs-else w n inputs outputs given j other) ∙ was.1)
    | inr now ↦
        let same = now.0 in (
          omega arith,
          subst (λ (k : ℕ). is_one_of (w3.inputs k) prefix ≡ true) (sym same)
              (ap (λ (ps : List (List ℕ)). is_one_of ps prefix) (inputs-here w n inputs outputs given) ∙ wide_in.among prefix now.1),
        )
  ]

  -- ---- reaches

  reached-before : (i j : ℕ) → j < get_or reaches i 0 → stands (is_given w3) i j ≡ true
  reached-before i j less = elim (cases_lt i (length reaches)) [
    | inl inside ↦ let long = tree.reaches_long in up i j (omega arith) (tree.reached i j less)
    | inr past ↦ let none = get_or_past reaches i 0 past in absurd (omega arith)
  ]

  reached-now : (j : ℕ) → j < reach → stands (is_given w3) n j ≡ true
  reached-now j less = elim (reach_with j less) [
    | inl below ↦ on-reach j below
    | inr h ↦ on-given j h
  ]

  reached-behind : length reaches ≡ n → (i j : ℕ) → j < get_or (reaches ++ reach ∷ []) i 0 → stands (is_given w3) i j ≡ true
  reached-behind long i j less = elim (cases_lt i (length reaches)) [
    | inl inside ↦ let same = get_or_append_left reaches (reach ∷ []) 0 i inside in reached-before i j (rw same at less)
    | inr past ↦ elim (cases_eq i n) [
      | inl same ↦ subst (λ (k : ℕ). stands (is_given w3) k j ≡ true) (sym same) (reached-now j (at-end less same))
      | inr other ↦
          let none = get_or_past (reaches ++ reach ∷ []) i 0 (past-end past other) in
          absurd (omega arith)
    ]
  ]
    where
      at-end : j < get_or (reaches ++ reach ∷ []) i 0 → i ≡ n → j < reach
      at-end l same = rw (last-is reaches (same ∙ sym long)) at l
        where
          last-is : (xs : List ℕ) → i ≡ length xs → get_or (xs ++ reach ∷ []) i 0 ≡ reach
          last-is xs e = ap (λ (k : ℕ). get_or (xs ++ reach ∷ []) k 0) e ∙ get_or-last xs reach

      past-end : length reaches ≤ i → i ≢ n → length (reaches ++ reach ∷ []) ≤ i
      past-end from_end other = elim (cases_lt n i) [
        | inl more ↦ omega (arith, length-append reaches (reach ∷ []))
        | inr under ↦ absurd (other (omega arith))
      ]

  reached-all : (i j : ℕ) → j < get_or new_reaches i 0 → stands (is_given w3) i j ≡ true
  reached-all i j less = elim puts_reach [
    | inl same ↦ reached-before i j (rw same at less)
    | inr more ↦ reached-behind more.0 i j (rw more.1 at less)
  ]

  long-enough : length new_reaches ≤ n + 1
  long-enough = elim puts_reach [
    | inl same ↦ let long = tree.reaches_long in omega (arith, ap (λ (xs : List ℕ). length xs) same)
    | inr more ↦ let e = more.0 in omega (arith, ap (λ (xs : List ℕ). length xs) more.1, length-append reaches (reach ∷ []))
  ]

  none-behind : (i : ℕ) → n + 1 ≤ i → (w3.inputs i ≡ []) × (w3.outputs i ≡ []) × (w3.given i ≡ [])
  none-behind i more =
      let other : i ≢ n = more-other i n (omega arith) in
      let nothing = tree.later i (omega arith) in (
        inputs-else w n inputs outputs given i other ∙ nothing.0,
        outputs-else w n inputs outputs given i other ∙ nothing.1,
        given-else w n inputs outputs given i other ∙ nothing.2,
      )

  pub is-added : IsTreeOf tree3 w3
  is-added = record {
    given = are-given;
    whole = refl;
    later = none-behind;
    writers = writers-are;
    readers = readers-are;
    written = number-cases w n inputs outputs given (λ j. (prefix : List ℕ) → is_one_of (w3.outputs j) prefix ≡ true → IsWritten tree3 w3 j prefix)
        (λ prefix h. written-new prefix (ap (λ (ps : List (List ℕ)). is_one_of ps prefix) (sym (outputs-here w n inputs outputs given)) ∙ h))
        (λ j other prefix h. written-old j prefix
        (tree.written j prefix (ap (λ (ps : List (List ℕ)). is_one_of ps prefix) (sym (outputs-else w n inputs outputs given j other)) ∙ h)));
    read = number-cases w n inputs outputs given (λ j. (prefix : List ℕ) → is_one_of (w3.inputs j) prefix ≡ true → IsRead tree3 w3 j prefix)
        (λ prefix h. read-new prefix (ap (λ (ps : List (List ℕ)). is_one_of ps prefix) (sym (inputs-here w n inputs outputs given)) ∙ h))
        (λ j other prefix h. read-old j prefix
        (tree.read j prefix (ap (λ (ps : List (List ℕ)). is_one_of ps prefix) (sym (inputs-else w n inputs outputs given j other)) ∙ h)));
    marked = marked;
    reached = reached-all;
    reaches_long = long-enough;
  }
