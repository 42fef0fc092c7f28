-- A walk over what stands from a key on, as far as the key covers it.
use Rattle.std.proofs.Common.{◌≡◌, ℕ, Bool, true, false, ◌&&◌, ◌==◌, ◌⊎◌, inl, inr, List, [], ◌∷◌, ◌++◌, refl, sym, ap, ◌∙◌, Option, Some, None, Less, Equal, Greater, bytes_eq, cond}
use Rattle.std.specs.BTreeMap.{IsOrdered, is_at}
use Rattle.std.specs.BTreeMap.Range.{IsRangeOf, entries_between}
use Rattle.std.specs.Cmp.{eq_by_cmp_equiv}
use Rattle.std.specs.Cmp.Lexicographic.{nat_list_cmp_total, slice_cmp, texts_ties}
use Rattle.std.specs.List.{All, AllByRecursion, filter}
use Rattle.std.specs.List.Sorted.{IsStrictlySortedBy}
use Rattle.std.specs.Map.{keys_of, lookup}
use Rattle.std.specs.Ordering.{is_gt, is_le, nat_cmp}
use Rattle.std.specs.declared.cmp.Ordering.{Ordering}
use Rattle.std.specs.declared.ops.Bound.TheVariants.{Included, Unbounded}
use Rattle.std.proofs.lemmas.Bool.{or_cases, or_left, or_right, true≢false}
use Rattle.std.proofs.lemmas.List.Elements.{All-head, All-tail}
use Rattle.std.proofs.lemmas.List.Kept.{IsStrictlySortedBy-filter}
use Rattle.std.proofs.lemmas.Map.Keys.{sorted_head, sorted_tail}
use Rattle.saw_address.specs.Prefixes.{covers}
use Rattle.saw_predtree.specs.Places.{Places, met_at, met_by, place_at, readers_at, writer_at, readers_of, writer_of}
use Rattle.saw_predtree.specs.Searches.{Gathers, IsMet}
use Rattle.saw_predtree.specs.Trees.{is_in, is_one_of}
use Rattle.saw_predtree.specs.declared.place.Place.{Place}
use Rattle.saw_predtree.specs.declared.place.Usage.{Usage}
use Rattle.saw_predtree.specs.declared.place.Usage.TheVariants.{Reads, Writes}
use Rattle.saw_predtree.proofs.Coverings.{covers-between, covers-le}
use Rattle.saw_predtree.proofs.Members.{any-left, any-parts, any-right, bytes-same, same-bytes}

abbrev pub Kept : Type 0
Kept = List (List ℕ × Place)

-- where one is met, something stands
met-somewhere : (usage : Usage) (place : Option Place) (j : ℕ) → is_in (met_by usage (writer_of place) (readers_of place)) j ≡ true → (one : Place) × (place ≡ Some one)
met-somewhere Reads None j h = absurd (true≢false (sym h))
met-somewhere Writes None j h = absurd (true≢false (sym h))
met-somewhere usage (Some one) j h = (one, refl)

-- ---- the range

same-key : (a b : List ℕ) → is_at (slice_cmp nat_cmp a) b ≡ bytes_eq b a
same-key a b = (eq_by_cmp_equiv nat_list_cmp_total).symm a b ∙ sym (texts_ties b a)

module _ (key : List ℕ) where
  abbrev from_key : Kept → Kept
  from_key es = entries_between (slice_cmp nat_cmp) (Included key) Unbounded es

  abbrev is_from : List ℕ → Bool
  is_from at = is_le (slice_cmp nat_cmp key at) && true

  from-more : (e : List ℕ × Place) (es : Kept) (at : List ℕ) → is_one_of (keys_of (from_key es)) at ≡ true → is_one_of (keys_of (from_key (e ∷ es))) at ≡ true
  from-more e es at h = go (is_from e.0)
    where
      go : (b : Bool) → is_one_of (keys_of (cond b (e ∷ from_key es) (from_key es))) at ≡ true
      go true = or_right (bytes_eq e.0 at) (is_one_of (keys_of (from_key es)) at) h
      go false = h

  from-here : (e : List ℕ × Place) (es : Kept) (at : List ℕ) → e.0 ≡ at → is_from at ≡ true → is_one_of (keys_of (from_key (e ∷ es))) at ≡ true
  from-here e es at same h = go (is_from e.0) (ap is_from same ∙ h)
    where
      go : (b : Bool) → b ≡ true → is_one_of (keys_of (cond b (e ∷ from_key es) (from_key es))) at ≡ true
      go true is = or_left (bytes_eq e.0 at) (is_one_of (keys_of (from_key es)) at) (bytes-same e.0 at same)
      go false is = absurd (true≢false (sym is))

  -- what stands at a key from this one on stands in the range
  from-looked : (es : Kept) (at : List ℕ) (p : Place) → lookup (is_at (slice_cmp nat_cmp at)) es ≡ Some p → is_from at ≡ true
      → is_one_of (keys_of (from_key es)) at ≡ true
  from-looked [] at p there h = absurd (none there)
    where
      none : None ≡ Some p → ⊥
      none e = cc
  from-looked (e ∷ es) at p there h = go (λ later. from-looked es at p later h) (bytes_eq e.0 at) refl
    where
      go : (lookup (is_at (slice_cmp nat_cmp at)) es ≡ Some p → is_one_of (keys_of (from_key es)) at ≡ true)
          → (b : Bool) → bytes_eq e.0 at ≡ b → is_one_of (keys_of (from_key (e ∷ es))) at ≡ true
      go rest true is = from-here e es at (same-bytes e.0 at is) h
      go rest false is = from-more e es at (rest (sym (ap (λ (b : Bool). cond b (Some e.1) (lookup (is_at (slice_cmp nat_cmp at)) es)) (same-key at e.0 ∙ is)) ∙ there))

  keys-between : (es : Kept) → keys_of (from_key es) ≡ filter is_from (keys_of es)
  keys-between [] = refl
  keys-between (e ∷ es) = go (keys-between es) (is_from e.0)
    where
      go : keys_of (from_key es) ≡ filter is_from (keys_of es)
          → (b : Bool) → keys_of (cond b (e ∷ from_key es) (from_key es)) ≡ cond b (e.0 ∷ filter is_from (keys_of es)) (filter is_from (keys_of es))
      go rest true = ap (λ (ks : List (List ℕ)). e.0 ∷ ks) rest
      go rest false = rest

le-from : (o : Ordering) → is_gt o ≡ false → is_le o ≡ true
le-from Less h = refl
le-from Equal h = refl
le-from Greater h = absurd (true≢false h)

-- ---- the walk

-- the entry stands in the map, from the key on
abbrev IsFrom : Places → List ℕ → List ℕ × Place → Type 0
IsFrom places key e = (is_le (slice_cmp nat_cmp key e.0) ≡ true) × (place_at places e.0 ≡ Some e.1)

-- whom one meets at what is covered was found, or is met at an entry that is left
pub record IsOnTheWay (usage : Usage) (places : Places) (key : List ℕ) (old new : List ℕ) (rest : Kept) : Type 0 where
  pub are : All (IsFrom places key) rest
  pub sorted : IsStrictlySortedBy (slice_cmp nat_cmp) (keys_of rest)
  pub kept : (j : ℕ) → is_in old j ≡ true → is_in new j ≡ true
  pub sound : (j : ℕ) → is_in new j ≡ true → (is_in old j ≡ true) ⊎ IsMet usage (writer_at places) (readers_at places) (covers key) j
  pub whole : (at : List ℕ) (j : ℕ) → covers key at ≡ true → is_in (met_at usage places at) j ≡ true → (is_in new j ≡ true) ⊎ (is_one_of (keys_of rest) at ≡ true)

-- before the first
pub way-begins : (usage : Usage) (places : Places) (key old : List ℕ) (rest : Kept) → rest ≡ from_key key places.entries
    → IsRangeOf (slice_cmp nat_cmp) (Included key) Unbounded places rest → IsOrdered (slice_cmp nat_cmp) places → IsOnTheWay usage places key old old rest
way-begins usage places key old rest is range ordered = record {
  are = λ k d inside. (le-from _ (range.0 k d inside).0.0, (range.0 k d inside).1);
  sorted = rw is (rw (keys-between key places.entries) (IsStrictlySortedBy-filter (slice_cmp nat_cmp) (is_from key) (keys_of places.entries) ordered));
  kept = λ j h. h;
  sound = λ j h. inl h;
  whole = λ at j above met. inr (rw is
      (let there = met-somewhere usage (place_at places at) j met in
      from-looked key places.entries at there.0 there.1 (rw (covers-le key at above) refl)));
}

module _ (usage : Usage) (places : Places) (key old new : List ℕ) (e : List ℕ × Place) (rest : Kept) (way : IsOnTheWay usage places key old new (e ∷ rest)) where
  head-is : IsFrom places key e
  head-is = All-head (IsFrom places key) e rest way.are

  -- an entry that is covered
  pub way-goes : (next : List ℕ) → covers key e.0 ≡ true → next ≡ new ++ met_by usage e.1.writer e.1.readers.items → IsOnTheWay usage places key old next rest
  way-goes next above is = record {
    are = All-tail (IsFrom places key) e rest way.are;
    sorted = sorted_tail (slice_cmp nat_cmp) e.0 (keys_of rest) way.sorted;
    kept = λ j h. rw is (any-left (λ (n : ℕ). n == j) new (met_by usage e.1.writer e.1.readers.items) (way.kept j h));
    sound = λ j h. elim (any-parts (λ (n : ℕ). n == j) new (met_by usage e.1.writer e.1.readers.items) (rw is at h)) [
      | inl before ↦ way.sound j before
      | inr here ↦ inr (record { at = e.0; passes = above; there = rw head-is.1 here })
    ];
    whole = λ at j under met. elim (way.whole at j under met) [
      | inl before ↦ inl (rw is (any-left (λ (n : ℕ). n == j) new (met_by usage e.1.writer e.1.readers.items) before))
      | inr left ↦ elim (or_cases (bytes_eq e.0 at) (is_one_of (keys_of rest) at) left) [
        | inl same ↦ inl (rw is (any-right (λ (n : ℕ). n == j) new (met_by usage e.1.writer e.1.readers.items)
            (met-here at j (same-bytes e.0 at same) met)))
        | inr later ↦ inr later
      ]
    ];
  }
    where
      met-here : (at : List ℕ) (j : ℕ) → e.0 ≡ at → is_in (met_at usage places at) j ≡ true → is_in (met_by usage e.1.writer e.1.readers.items) j ≡ true
      met-here at j same met =
          sym (ap (λ (p : Option Place). is_in (met_by usage (writer_of p) (readers_of p)) j) head-is.1)
          ∙ ap (λ (q : List ℕ). is_in (met_at usage places q) j) same ∙ met

  -- an entry that is not: nothing behind it is covered
  pub way-stops : covers key e.0 ≡ false → Gathers usage (writer_at places) (readers_at places) (covers key) old new
  way-stops apart = record {
    kept = way.kept;
    sound = way.sound;
    whole = λ at j under met. elim (way.whole at j under met) [
      | inl before ↦ before
      | inr left ↦ absurd (elim (or_cases (bytes_eq e.0 at) (is_one_of (keys_of rest) at) left) [
        | inl same ↦ true≢false (sym (ap (covers key) (same-bytes e.0 at same) ∙ under) ∙ apart)
        | inr later ↦
            let less = all-at (keys_of rest) at (sorted_head (slice_cmp nat_cmp) e.0 (keys_of rest) way.sorted) later in
            true≢false (sym (covers-between key e.0 at under head-is.0 less) ∙ apart)
      ])
    ];
  }
    where
      all-at : (ks : List (List ℕ)) (at : List ℕ) → AllByRecursion (λ (y : List ℕ). slice_cmp nat_cmp e.0 y ≡ Less) ks → is_one_of ks at ≡ true → slice_cmp nat_cmp e.0 at ≡ Less
      all-at [] at all one = absurd (true≢false (sym one))
      all-at (k ∷ ks) at all one = elim (or_cases (bytes_eq k at) (is_one_of ks at) one) [
        | inl same ↦ ap (λ (y : List ℕ). slice_cmp nat_cmp e.0 y) (sym (same-bytes k at same)) ∙ all.0
        | inr later ↦ all-at ks at all.1 later
      ]

-- nothing is left
pub way-ends : (usage : Usage) (places : Places) (key old new : List ℕ) → IsOnTheWay usage places key old new [] → Gathers usage (writer_at places) (readers_at places) (covers key) old new
way-ends usage places key old new way = record {
  kept = way.kept;
  sound = way.sound;
  whole = λ at j under met. elim (way.whole at j under met) [
    | inl before ↦ before
    | inr left ↦ absurd (true≢false (sym left))
  ];
}
