-- What new readers and writers change.
use Rattle.std.proofs.Common.{◌≡◌, ℕ, ◌+◌, ◌<◌, ◌≤◌, Bool, true, false, cond, if◌then◌else◌, ◌==◌, ◌⊎◌, inl, inr, List, [], ◌∷◌, ◌++◌, length, get_or, take, set, Option, Some, None, IsSome, refl, sym, ap, ◌∙◌, subst, arith, bytes_eq, get_or-set_same, get_or-set_other, length-set}
use Rattle.std.specs.BTreeMap.{Updates}
use Rattle.std.specs.Cmp.Lexicographic.{slice_cmp}
use Rattle.std.specs.Ordering.{nat_cmp}
use Rattle.std.proofs.lemmas.Bool.{cases_eq, cases_lt, true≢false}
use Rattle.std.proofs.lemmas.List.{get_or_past, take_more}
use Rattle.std.proofs.lemmas.Map.Text.{is_eq-slice_cmp}
use Rattle.saw_address.specs.Prefixes.{covers}
use Rattle.saw_predtree.specs.Places.{Places, place_at, readers_at, readers_of, writer_at, writer_of}
use Rattle.saw_predtree.specs.Puts.{IsWriterAbove, KeepsMarks, PutsReaders, PutsWriters}
use Rattle.saw_predtree.specs.Searches.{IsAbove, IsCovered}
use Rattle.saw_predtree.specs.Trees.{is_in, is_one_of}
use Rattle.saw_predtree.specs.declared.place.Place.{Place}
use Rattle.saw_predtree.proofs.Coverings.{covers-itself, covers-trans}
use Rattle.saw_predtree.proofs.Members.{any-left, any-parts, any-right, bytes-same, in-itself, in-one, one-itself, one-same, same-bytes}

-- ---- marks

-- a mark more
mark-kept : (lengths : List Bool) (n m : ℕ) → get_or lengths m false ≡ true → get_or (set lengths n true) m false ≡ true
mark-kept lengths n m h = elim (cases_eq n m) [
  | inl same ↦ rw same (get_or-set_same lengths m true false (inside m h))
  | inr other ↦ get_or-set_other lengths n m true false (λ e. other (sym e)) ∙ h
]
  where
    inside : (k : ℕ) → get_or lengths k false ≡ true → k < length lengths
    inside k is = elim (cases_lt k (length lengths)) [
      | inl less ↦ less
      | inr past ↦ absurd (true≢false (sym is ∙ get_or_past lengths k false past))
    ]

-- what stands somewhere stood there before, or has the length that was marked
pub marks-kept : (lengths : List Bool) (old new : Places) (key : List ℕ) → length key < 36
    → ((at : List ℕ) (j : ℕ) → writer_at new at ≡ Some j → (writer_at old at ≡ Some j) ⊎ (at ≡ key))
    → ((at : List ℕ) (j : ℕ) → is_in (readers_at new at) j ≡ true → (is_in (readers_at old at) j ≡ true) ⊎ (at ≡ key))
    → KeepsMarks lengths old (set lengths (length key) true) new
marks-kept lengths old new key short writers readers = λ marked. record {
  marks = length-set lengths (length key) true ∙ marked.marks;
  written = λ at j is. elim (writers at j is) [
    | inl before ↦ mark-kept lengths (length key) (length at) (marked.written at j before)
    | inr here ↦ marked-here at here marked.marks
  ];
  read = λ at j is. elim (readers at j is) [
    | inl before ↦ mark-kept lengths (length key) (length at) (marked.read at j before)
    | inr here ↦ marked-here at here marked.marks
  ];
}
  where
    marked-here : (at : List ℕ) → at ≡ key → length lengths ≡ 36 → get_or (set lengths (length key) true) (length at) false ≡ true
    marked-here at here marks = rw here (get_or-set_same lengths (length key) true false (omega (arith, short, marks)))

-- ---- one writer

module _ (old mid new : Places) (n : ℕ) (key : List ℕ) (place : Place) (writes : place.writer ≡ Some n) (alone : place.readers.items ≡ [])
    (cleared : (at : List ℕ) → (place_at mid at ≡ place_at old at) ⊎ ((place_at mid at ≡ None) × (covers key at ≡ true)))
    (updates : Updates (slice_cmp nat_cmp) mid new key (Some place)) where
  new-at : (at : List ℕ) → place_at new at ≡ cond (bytes_eq key at) (Some place) (place_at mid at)
  new-at at = updates.0 at ∙ rw (is_eq-slice_cmp key at) refl

  new-here : place_at new key ≡ Some place
  new-here = new-at key ∙ ap (λ (b : Bool). cond b (Some place) (place_at mid key)) (bytes-same key key refl)

  -- what stands there now is the new writer, or stood there, or is nothing
  data Turns (at : List ℕ) : Type 0 where
    put_here : key ≡ at → place_at new at ≡ Some place → Turns at
    as_before : place_at new at ≡ place_at old at → Turns at
    taken_out : place_at new at ≡ None → covers key at ≡ true → Turns at

  turns : (at : List ℕ) → Turns at
  turns at = go (bytes_eq key at) refl
    where
      go : (b : Bool) → bytes_eq key at ≡ b → Turns at
      go true is = put_here (same-bytes key at is) (new-at at ∙ ap (λ (b : Bool). cond b (Some place) (place_at mid at)) is)
      go false is = elim (cleared at) [
        | inl before ↦ as_before (new-at at ∙ ap (λ (b : Bool). cond b (Some place) (place_at mid at)) is ∙ before)
        | inr away ↦ taken_out (new-at at ∙ ap (λ (b : Bool). cond b (Some place) (place_at mid at)) is ∙ away.0) away.1
      ]

  kept-at : (at : List ℕ) → Turns at → (place_at new at ≡ place_at old at) ⊎ IsCovered (key ∷ []) at
  kept-at at (put_here is now) = inr (record { key = key; one = one-itself key; above = subst (λ (q : List ℕ). covers key q ≡ true) is (covers-itself key) })
  kept-at at (as_before now) = inl now
  kept-at at (taken_out now under) = inr (record { key = key; one = one-itself key; above = under })

  writers-at : (at : List ℕ) (j : ℕ) → Turns at → writer_at new at ≡ Some j → (writer_at old at ≡ Some j) ⊎ ((j ≡ n) × (is_one_of (key ∷ []) at ≡ true))
  writers-at at j (put_here is now) h =
      let e : Some n ≡ Some j = sym writes ∙ (sym (ap writer_of now) ∙ h) in
      let number : j ≡ n = cc in
      inr (number, subst (λ (q : List ℕ). is_one_of (key ∷ []) q ≡ true) is (one-itself key))
  writers-at at j (as_before now) h = inl (sym (ap writer_of now) ∙ h)
  writers-at at j (taken_out now under) h = absurd (none (sym (ap writer_of now) ∙ h))
    where
      none : None ≡ Some j → ⊥
      none e = cc

  readers-at : (at : List ℕ) (j : ℕ) → Turns at → is_in (readers_at new at) j ≡ true → is_in (readers_at old at) j ≡ true
  readers-at at j (put_here is now) h =
      absurd (true≢false (sym h ∙ (ap (λ (p : Option Place). is_in (readers_of p) j) now ∙ ap (λ (xs : List ℕ). is_in xs j) alone)))
  readers-at at j (as_before now) h = sym (ap (λ (p : Option Place). is_in (readers_of p) j) now) ∙ h
  readers-at at j (taken_out now under) h = absurd (true≢false (sym h ∙ ap (λ (p : Option Place). is_in (readers_of p) j) now))

  pub writer-put : PutsWriters old new n (key ∷ [])
  writer-put = record {
    kept = λ at. kept-at at (turns at);
    writers = λ at j h. writers-at at j (turns at) h;
    readers = λ at j h. readers-at at j (turns at) h;
    here = λ k one. subst (λ (q : List ℕ). IsWriterAbove new n q) (one-same key k one)
        (record { at = key; above = covers-itself key; writer = ap writer_of new-here ∙ writes });
  }

-- a writer was put, and its length marked
pub writer-marks : (lengths : List Bool) (old new : Places) (n : ℕ) (key : List ℕ) → length key ≤ 35 → PutsWriters old new n (key ∷ [])
    → KeepsMarks lengths old (set lengths (length key) true) new
writer-marks lengths old new n key short puts =
    marks-kept lengths old new key (omega (arith, short))
    (λ at j h. elim (puts.writers at j h) [
      | inl before ↦ inl before
      | inr now ↦ inr (sym (one-same key at now.1))
    ])
    (λ at j h. inl (puts.readers at j h))

-- ---- one reader

module _ (old new : Places) (n : ℕ) (others : List (List ℕ)) (key : List ℕ) (place : Place)
    (new-at : (at : List ℕ) → place_at new at ≡ cond (bytes_eq key at) (Some place) (place_at old at))
    (writes : place.writer ≡ writer_at old key)
    (reads : (place.readers.items ≡ readers_at old key ++ n ∷ []) ⊎ ((place.readers.items ≡ n ∷ []) × IsAbove key others)) where
  reader-here : place_at new key ≡ Some place
  reader-here = new-at key ∙ ap (λ (b : Bool). cond b (Some place) (place_at old key)) (bytes-same key key refl)

  reader-else : (at : List ℕ) → bytes_eq key at ≡ false → place_at new at ≡ place_at old at
  reader-else at apart = new-at at ∙ ap (λ (b : Bool). cond b (Some place) (place_at old at)) apart

  readers-here : readers_at new key ≡ place.readers.items
  readers-here = ap readers_of reader-here

  n-reads : is_in (readers_at new key) n ≡ true
  n-reads = rw readers-here (elim reads [
    | inl more ↦ rw more (any-right (λ (k : ℕ). k == n) (readers_at old key) (n ∷ []) (in-itself n))
    | inr one ↦ rw one.0 (in-itself n)
  ])

  kept-here : (j : ℕ) → is_in (readers_at old key) j ≡ true → (is_in (readers_at new key) j ≡ true) ⊎ ((is_in (readers_at new key) n ≡ true) × IsAbove key others)
  kept-here j h = elim reads [
    | inl more ↦ inl (rw (readers-here, more) (any-left (λ (k : ℕ). k == j) (readers_at old key) (n ∷ []) h))
    | inr one ↦ inr (n-reads, one.1)
  ]

  only-here : (j : ℕ) → is_in (readers_at new key) j ≡ true → (is_in (readers_at old key) j ≡ true) ⊎ ((j ≡ n) × (is_one_of (key ∷ []) key ≡ true))
  only-here j h = elim reads [
    | inl more ↦ elim (any-parts (λ (k : ℕ). k == j) (readers_at old key) (n ∷ []) (rw (readers-here, more) at h)) [
      | inl before ↦ inl before
      | inr last ↦ inr (sym (in-one n j last), one-itself key)
    ]
    | inr one ↦ inr (sym (in-one n j (rw (readers-here, one.0) at h)), one-itself key)
  ]

  -- by whether the place is the one that is read
  at-key : (P : List ℕ → Type 0) → P key → ((at : List ℕ) → bytes_eq key at ≡ false → P at) → (at : List ℕ) → P at
  at-key P here apart at = go (bytes_eq key at) refl
    where
      go : (b : Bool) → bytes_eq key at ≡ b → P at
      go true is = subst P (same-bytes key at is) here
      go false is = apart at is

  pub reader-put : PutsReaders old new n others (key ∷ [])
  reader-put = record {
    writers = at-key (λ at. writer_at new at ≡ writer_at old at) (ap writer_of reader-here ∙ writes) (λ at apart. ap writer_of (reader-else at apart));
    kept = at-key (λ at. (j : ℕ) → is_in (readers_at old at) j ≡ true → (is_in (readers_at new at) j ≡ true) ⊎ ((is_in (readers_at new at) n ≡ true) × IsAbove at others))
        kept-here (λ at apart j h. inl (ap (λ (p : Option Place). is_in (readers_of p) j) (reader-else at apart) ∙ h));
    only = at-key (λ at. (j : ℕ) → is_in (readers_at new at) j ≡ true → (is_in (readers_at old at) j ≡ true) ⊎ ((j ≡ n) × (is_one_of (key ∷ []) at ≡ true)))
        only-here (λ at apart j h. inl (sym (ap (λ (p : Option Place). is_in (readers_of p) j) (reader-else at apart)) ∙ h));
    here = λ k one. subst (λ (q : List ℕ). is_in (readers_at new q) n ≡ true) (one-same key k one) n-reads;
  }

pub reader-marks : (lengths : List Bool) (old new : Places) (n : ℕ) (others : List (List ℕ)) (key : List ℕ) → length key ≤ 35 → PutsReaders old new n others (key ∷ [])
    → KeepsMarks lengths old (set lengths (length key) true) new
reader-marks lengths old new n others key short puts =
    marks-kept lengths old new key (omega (arith, short)) (λ at j h. inl (sym (puts.writers at) ∙ h))
    (λ at j h. elim (puts.only at j h) [
      | inl before ↦ inl before
      | inr now ↦ inr (sym (one-same key at now.1))
    ])

-- ---- many

pub no-writers : (places : Places) (n : ℕ) → PutsWriters places places n []
no-writers places n = record {
  kept = λ at. inl refl;
  writers = λ at j h. inl h;
  readers = λ at j h. h;
  here = λ key one. absurd (true≢false (sym one));
}

pub no-readers : (places : Places) (n : ℕ) (others : List (List ℕ)) → PutsReaders places places n others []
no-readers places n others = record {
  writers = λ at. refl;
  kept = λ at j h. inl h;
  only = λ at j h. inl h;
  here = λ key one. absurd (true≢false (sym one));
}

module _ (old mid new : Places) (n : ℕ) (first second : List (List ℕ)) where
  covered-left : (at : List ℕ) → IsCovered first at → IsCovered (first ++ second) at
  covered-left at is = record { key = is.key; one = any-left (λ (other : List ℕ). bytes_eq other is.key) first second is.one; above = is.above }

  covered-right : (at : List ℕ) → IsCovered second at → IsCovered (first ++ second) at
  covered-right at is = record { key = is.key; one = any-right (λ (other : List ℕ). bytes_eq other is.key) first second is.one; above = is.above }

  one-left : (key : List ℕ) → is_one_of first key ≡ true → is_one_of (first ++ second) key ≡ true
  one-left key h = any-left (λ (other : List ℕ). bytes_eq other key) first second h

  one-right : (key : List ℕ) → is_one_of second key ≡ true → is_one_of (first ++ second) key ≡ true
  one-right key h = any-right (λ (other : List ℕ). bytes_eq other key) first second h

  still-above : PutsWriters mid new n second → (key : List ℕ) → IsWriterAbove mid n key → IsWriterAbove new n key
  still-above two key is = elim (two.kept is.at) [
    | inl same ↦ record { at = is.at; above = is.above; writer = ap writer_of same ∙ is.writer }
    | inr under ↦
        let higher = two.here under.key under.one in
        record {
          at = higher.at;
          above = covers-trans higher.at is.at key (covers-trans higher.at under.key is.at higher.above under.above) is.above;
          writer = higher.writer;
        }
  ]

  pub writers-both : PutsWriters old mid n first → PutsWriters mid new n second → PutsWriters old new n (first ++ second)
  writers-both one two = record {
    kept = λ at. elim (two.kept at) [
      | inr under ↦ inr (covered-right at under)
      | inl same ↦ elim (one.kept at) [
        | inr under ↦ inr (covered-left at under)
        | inl before ↦ inl (same ∙ before)
      ]
    ];
    writers = λ at j h. elim (two.writers at j h) [
      | inr now ↦ inr (now.0, one-right at now.1)
      | inl before ↦ elim (one.writers at j before) [
        | inl long ↦ inl long
        | inr once ↦ inr (once.0, one-left at once.1)
      ]
    ];
    readers = λ at j h. one.readers at j (two.readers at j h);
    here = λ key h. elim (any-parts (λ (other : List ℕ). bytes_eq other key) first second h) [
      | inl before ↦ still-above two key (one.here key before)
      | inr now ↦ two.here key now
    ];
  }

  pub readers-both : (others : List (List ℕ)) → PutsReaders old mid n others first → PutsReaders mid new n others second → PutsReaders old new n others (first ++ second)
  readers-both others one two = record {
    writers = λ at. two.writers at ∙ one.writers at;
    kept = λ at j h. elim (one.kept at j h) [
      | inl before ↦ two.kept at j before
      | inr for ↦ inr (still-reads two at for.0, for.1)
    ];
    only = λ at j h. elim (two.only at j h) [
      | inr now ↦ inr (now.0, one-right at now.1)
      | inl before ↦ elim (one.only at j before) [
        | inl long ↦ inl long
        | inr once ↦ inr (once.0, one-left at once.1)
      ]
    ];
    here = λ key h. elim (any-parts (λ (other : List ℕ). bytes_eq other key) first second h) [
      | inl before ↦ still-reads two key (one.here key before)
      | inr now ↦ two.here key now
    ];
  }
    where
      still-reads : PutsReaders mid new n others second → (at : List ℕ) → is_in (readers_at mid at) n ≡ true → is_in (readers_at new at) n ≡ true
      still-reads puts at h = elim (puts.kept at n h) [
        | inl still ↦ still
        | inr for ↦ for.0
      ]

-- one more key
pub next-key : (keys : List (List ℕ)) (i : ℕ) (key : List ℕ) → i < length keys → key ≡ get_or keys i key → take (i + 1) keys ≡ take i keys ++ key ∷ []
next-key keys i key inside is = take_more keys i key inside ∙ ap (λ (k : List ℕ). take i keys ++ k ∷ []) (sym is)

-- one more that is covered was taken out
pub cleared-more : (old mid new : Places) (key gone : List ℕ) → covers key gone ≡ true
    → ((at : List ℕ) → (place_at mid at ≡ place_at old at) ⊎ ((place_at mid at ≡ None) × (covers key at ≡ true)))
    → Updates (slice_cmp nat_cmp) mid new gone None → (at : List ℕ) → (place_at new at ≡ place_at old at) ⊎ ((place_at new at ≡ None) × (covers key at ≡ true))
cleared-more old mid new key gone under so updates at = go (bytes_eq gone at) refl
  where
    new-at : place_at new at ≡ cond (bytes_eq gone at) None (place_at mid at)
    new-at = updates.0 at ∙ rw (is_eq-slice_cmp gone at) refl

    go : (b : Bool) → bytes_eq gone at ≡ b → (place_at new at ≡ place_at old at) ⊎ ((place_at new at ≡ None) × (covers key at ≡ true))
    go true is = inr (new-at ∙ ap (λ (b : Bool). cond b None (place_at mid at)) is, ap (covers key) (sym (same-bytes gone at is)) ∙ under)
    go false is = let same = new-at ∙ ap (λ (b : Bool). cond b None (place_at mid at)) is in elim (so at) [
      | inl before ↦ inl (same ∙ before)
      | inr away ↦ inr (same ∙ away.0, away.1)
    ]

-- a reader was put where something stands
pub read-put : (old new : Places) (n : ℕ) (others : List (List ℕ)) (key : List ℕ) (was place : Place) (alone : Bool) → Some was ≡ place_at old key
    → (IsSome (place_at old key) → Updates (slice_cmp nat_cmp) old new key (Some place)) → place.writer ≡ was.writer
    → place.readers.items ≡ (if alone then [] else was.readers.items) ++ n ∷ [] → (alone ≡ true → IsAbove key others) → PutsReaders old new n others (key ∷ [])
read-put old new n others key was place alone there updates same reads above =
    reader-put old new n others key place (λ at. updated.0 at ∙ rw (is_eq-slice_cmp key at) refl) (same ∙ ap writer_of there) (cases alone refl)
  where
    updated : Updates (slice_cmp nat_cmp) old new key (Some place)
    updated = updates (rw (← there) refl)

    cases : (b : Bool) → alone ≡ b → (place.readers.items ≡ readers_at old key ++ n ∷ []) ⊎ ((place.readers.items ≡ n ∷ []) × IsAbove key others)
    cases true is = inr (rw is at reads, above is)
    cases false is = inl (rw (← there) (rw is at reads))

-- and where nothing stands
pub read-new : (old mid new : Places) (n : ℕ) (others : List (List ℕ)) (key : List ℕ) (place : Place) → None ≡ place_at old key → mid ≡ old
    → Updates (slice_cmp nat_cmp) mid new key (Some place) → place.writer ≡ None → place.readers.items ≡ n ∷ [] → PutsReaders old new n others (key ∷ [])
read-new old mid new n others key place there same updates writes reads =
    reader-put old new n others key place
    (λ at. updates.0 at ∙ rw (is_eq-slice_cmp key at) (ap (λ (m : Places). cond (bytes_eq key at) (Some place) (place_at m at)) same))
    (writes ∙ ap writer_of there) (inl (reads ∙ ap (λ (p : Option Place). readers_of p ++ n ∷ []) there))
