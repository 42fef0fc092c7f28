-- What a search along a key and below it finds.
use Rattle.std.proofs.Common.{◌≡◌, ℕ, zero, suc, ◌+◌, ◌≤◌, ◌<◌, Bool, true, false, ◌||◌, ◌==◌, ◌⊎◌, inl, inr, List, [], ◌∷◌, ◌++◌, length, length-take-le, get_or, take, Option, Some, None, refl, sym, ap, ◌∙◌, add-one, arith}
use Rattle.std.proofs.lemmas.Bool.{cases_lt, or_cases, or_left, or_right, true≢false}
use Rattle.std.proofs.lemmas.List.{append-nil, append_assoc, get_or_past, take_all}
use Rattle.std.proofs.lemmas.List.Folds.{list_any_more}
use Rattle.saw_address.specs.Prefixes.{covers, overlaps}
use Rattle.saw_predtree.specs.Places.{Places, met_at, met_by, readers_at, writer_as_list, writer_at}
use Rattle.saw_predtree.specs.Searches.{Gathers, met_above, overlaps_any}
use Rattle.saw_predtree.specs.Trees.{AreMarked, is_in}
use Rattle.saw_predtree.specs.declared.place.Usage.{Usage}
use Rattle.saw_predtree.specs.declared.place.Usage.TheVariants.{Reads, Writes}
use Rattle.saw_predtree.proofs.Coverings.{covers-first, covers-take, length-covers, take-covers}
use Rattle.saw_predtree.proofs.Members.{any-left, any-parts, any-right, in-itself, in-one, none-in}

-- ---- marks

-- whom one meets has written there or read there
pub met-who : (usage : Usage) (writer : Option ℕ) (readers : List ℕ) (j : ℕ) → is_in (met_by usage writer readers) j ≡ true → (writer ≡ Some j) ⊎ (is_in readers j ≡ true)
met-who Reads None readers j h = absurd (true≢false (sym h))
met-who Reads (Some writer) readers j h = inl (ap (λ (n : ℕ). Some n) (in-one writer j h))
met-who Writes None readers j h = inr h
met-who Writes (Some writer) readers j h = elim (any-parts (λ (n : ℕ). n == j) (writer ∷ []) readers h) [
  | inl here ↦ inl (ap (λ (n : ℕ). Some n) (in-one writer j here))
  | inr there ↦ inr there
]

-- the writer is met, and by one that writes the readers too
pub meets-writer : (usage : Usage) (writer : Option ℕ) (readers : List ℕ) (j : ℕ) → writer ≡ Some j → is_in (met_by usage writer readers) j ≡ true
meets-writer Reads writer readers j is = rw is (in-itself j)
meets-writer Writes writer readers j is = rw is (any-left (λ (n : ℕ). n == j) (j ∷ []) readers (in-itself j))

pub meets-reader : (writer : Option ℕ) (readers : List ℕ) (j : ℕ) → is_in readers j ≡ true → is_in (met_by Writes writer readers) j ≡ true
meets-reader writer readers j h = any-right (λ (n : ℕ). n == j) (writer_as_list writer) readers h

module _ (usage : Usage) (places : Places) (lengths : List Bool) (marked : AreMarked lengths (writer_at places) (readers_at places)) where
  met-marked : (at : List ℕ) (j : ℕ) → is_in (met_at usage places at) j ≡ true → get_or lengths (length at) false ≡ true
  met-marked at j h = elim (met-who usage (writer_at places at) (readers_at places at) j h) [
    | inl writes ↦ marked.written at j writes
    | inr reads ↦ marked.read at j reads
  ]

  -- where nothing is marked, none is met
  pub none-met : (at : List ℕ) (found : List ℕ) → get_or lengths (length at) false ≡ false → found ≡ found ++ met_at usage places at
  none-met at found bare =
      sym (append-nil found) ∙ ap (λ (more : List ℕ). found ++ more) (sym (none-in (met_at usage places at) (λ j h. sym (met-marked at j h) ∙ bare)))

  -- where one is met, at most 35 bytes stand
  met-short : (at : List ℕ) (j : ℕ) → is_in (met_at usage places at) j ≡ true → length at ≤ 35
  met-short at j h = elim (cases_lt (length at) 36) [
    | inl short ↦ omega arith
    | inr long ↦
        let marks : length lengths ≤ length at = omega (arith, marked.marks) in
        absurd (true≢false (sym (met-marked at j h) ∙ get_or_past lengths (length at) false marks))
  ]

-- ---- above

-- where no length is marked none is met
pub above-none : (usage : Usage) (places : Places) (lengths : List Bool) (key : List ℕ) (n : ℕ) → AreMarked lengths (writer_at places) (readers_at places) → n ≤ length key + 1
    → ((m : ℕ) → m < n → get_or lengths m false ≡ false) → met_above usage places key n ≡ []
above-none usage places lengths key zero marked within bare = refl
above-none usage places lengths key (suc n) marked within bare =
    sym (none-met usage places lengths marked (take n key) (met_above usage places key n)
    (ap (λ (m : ℕ). get_or lengths m false) (length-take-le n key (omega (arith, within))) ∙ bare n (omega arith)))
    ∙ above-none usage places lengths key n marked (omega (arith, within)) (λ m less. bare m (omega (arith, less)))

above-found : (usage : Usage) (places : Places) (key : List ℕ) (n j : ℕ) → is_in (met_above usage places key n) j ≡ true
    → (m : ℕ) × (m < n) × (is_in (met_at usage places (take m key)) j ≡ true)
above-found usage places key zero j h = absurd (true≢false (sym h))
above-found usage places key (suc n) j h = elim (any-parts (λ (k : ℕ). k == j) (met_above usage places key n) (met_at usage places (take n key)) h) [
  | inl before ↦ let found = above-found usage places key n j before in let less = found.1 in (found.0, omega arith, found.2)
  | inr here ↦ (n, omega arith, here)
]

above-whole : (usage : Usage) (places : Places) (key : List ℕ) (n m j : ℕ) → m < n → is_in (met_at usage places (take m key)) j ≡ true
    → is_in (met_above usage places key n) j ≡ true
above-whole usage places key zero m j less h = absurd (omega arith)
above-whole usage places key (suc n) m j less h = elim (cases_lt m n) [
  | inl before ↦ any-left (λ (k : ℕ). k == j) (met_above usage places key n) (met_at usage places (take n key)) (above-whole usage places key n m j before h)
  | inr here ↦
      let same : m ≡ n = omega arith in
      any-right (λ (k : ℕ). k == j) (met_above usage places key n) (met_at usage places (take n key)) (rw same at h)
]

-- one prefix more
pub above-more : (usage : Usage) (places : Places) (key bytes old mid new : List ℕ) (n : ℕ) → bytes ≡ key → mid ≡ old ++ met_above usage places key n
    → new ≡ mid ++ met_at usage places (take n bytes) → new ≡ old ++ met_above usage places key (n + 1)
above-more usage places key bytes old mid new n same before is =
    rw add-one
    (is ∙ (ap (λ (xs : List ℕ). xs ++ met_at usage places (take n bytes)) before
    ∙ (append_assoc old (met_above usage places key n) (met_at usage places (take n bytes))
    ∙ ap (λ (q : List ℕ). old ++ (met_above usage places key n ++ met_at usage places (take n q))) same)))

pub gathers-above : (usage : Usage) (places : Places) (key old new : List ℕ) → new ≡ old ++ met_above usage places key (length key + 1)
    → Gathers usage (writer_at places) (readers_at places) (λ at. covers at key) old new
gathers-above usage places key old new is = record {
  kept = λ j h. rw is (any-left (λ (k : ℕ). k == j) old (met_above usage places key (length key + 1)) h);
  sound = λ j h. elim (any-parts (λ (k : ℕ). k == j) old (met_above usage places key (length key + 1)) (rw is at h)) [
    | inl before ↦ inl before
    | inr above ↦
        let found = above-found usage places key (length key + 1) j above in
        let less = found.1 in
        inr (record { at = take found.0 key; passes = covers-first key found.0 (omega arith); there = found.2 })
  ];
  whole = λ at j passes met. rw is
      (any-right (λ (k : ℕ). k == j) old (met_above usage places key (length key + 1))
      (let long = length-covers at key passes in
      above-whole usage places key (length key + 1) (length at) j (omega arith)
      (ap (λ (q : List ℕ). is_in (met_at usage places q) j) (take-covers at key passes) ∙ met)));
}

-- ---- tests

module _ (usage : Usage) (writers : List ℕ → Option ℕ) (readers : List ℕ → List ℕ) where
  pub gathers-none : (test : List ℕ → Bool) (found : List ℕ) → ((at : List ℕ) → test at ≡ false) → Gathers usage writers readers test found found
  gathers-none test found none = record {
    kept = λ j h. h;
    sound = λ j h. inl h;
    whole = λ at j passes met. absurd (true≢false (sym passes ∙ none at));
  }

  pub gathers-both : (first second : List ℕ → Bool) (old mid new : List ℕ) → Gathers usage writers readers first old mid → Gathers usage writers readers second mid new
      → Gathers usage writers readers (λ at. first at || second at) old new
  gathers-both first second old mid new one two = record {
    kept = λ j h. two.kept j (one.kept j h);
    sound = λ j h. elim (two.sound j h) [
      | inl before ↦ elim (one.sound j before) [
        | inl long ↦ inl long
        | inr met ↦ inr (record { at = met.at; passes = or_left (first met.at) (second met.at) met.passes; there = met.there })
      ]
      | inr met ↦ inr (record { at = met.at; passes = or_right (first met.at) (second met.at) met.passes; there = met.there })
    ];
    whole = λ at j passes met. elim (or_cases (first at) (second at) passes) [
      | inl here ↦ two.kept j (one.whole at j here met)
      | inr there ↦ two.whole at j there met
    ];
  }

  pub gathers-same : (first second : List ℕ → Bool) (old new : List ℕ) → ((at : List ℕ) → first at ≡ second at) → Gathers usage writers readers first old new
      → Gathers usage writers readers second old new
  gathers-same first second old new same one = record {
    kept = one.kept;
    sound = λ j h. elim (one.sound j h) [
      | inl before ↦ inl before
      | inr met ↦ inr (record { at = met.at; passes = sym (same met.at) ∙ met.passes; there = met.there })
    ];
    whole = λ at j passes met. one.whole at j (same at ∙ passes) met;
  }

  -- one more key
  pub gathers-more : (keys : List (List ℕ)) (i : ℕ) (key : List ℕ) (old mid new : List ℕ) → i < length keys → key ≡ get_or keys i key
      → Gathers usage writers readers (overlaps_any (take i keys)) old mid → Gathers usage writers readers (λ at. overlaps at key) mid new
      → Gathers usage writers readers (overlaps_any (take (i + 1) keys)) old new
  gathers-more keys i key old mid new inside is one two =
      gathers-same (λ at. overlaps_any (take i keys) at || overlaps at key) (overlaps_any (take (i + 1) keys)) old new
      (λ at. ap (λ (k : List ℕ). overlaps_any (take i keys) at || overlaps at k) is ∙ sym (list_any_more (λ (k : List ℕ). overlaps at k) keys i key inside))
      (gathers-both (overlaps_any (take i keys)) (λ at. overlaps at key) old mid new one two)

-- nothing stands below a key of 35 bytes
pub gathers-long : (usage : Usage) (places : Places) (lengths : List Bool) (key old new : List ℕ) → 35 ≤ length key
    → AreMarked lengths (writer_at places) (readers_at places) → Gathers usage (writer_at places) (readers_at places) (λ at. covers at key) old new
    → Gathers usage (writer_at places) (readers_at places) (λ at. overlaps at key) old new
gathers-long usage places lengths key old new long marked one = record {
  kept = one.kept;
  sound = λ j h. elim (one.sound j h) [
    | inl before ↦ inl before
    | inr met ↦ inr (record { at = met.at; passes = or_left (covers met.at key) (covers key met.at) met.passes; there = met.there })
  ];
  whole = λ at j passes met. elim (or_cases (covers at key) (covers key at) passes) [
    | inl above ↦ one.whole at j above met
    | inr below ↦ one.whole at j (covers-take at key (whole-key at j below met)) met
  ];
}
  where
    whole-key : (at : List ℕ) (j : ℕ) → covers key at ≡ true → is_in (met_at usage places at) j ≡ true → take (length at) key ≡ at
    whole-key at j below met =
        let short = met-short usage places lengths marked at j met in
        let fits = length-covers key at below in
        let same : length key ≡ length at = omega arith in
        take_all (length at) key (omega arith) ∙ (sym (take-covers key at below) ∙ take_all (length key) at (omega arith))
