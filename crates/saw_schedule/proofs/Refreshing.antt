-- The layers are brought up to date where results are held no more.
use Rattle.std.proofs.Common.{◌≡◌, ◌≢◌, ◌<◌, ◌≤◌, ◌+◌, ℕ, zero, suc, Bool, true, false, List, [], ◌∷◌, filter, length, take, get_or, set, Some, None, slice_get, refl, sym, ap, subst, ◌∙◌, arith, ◌⊎◌, inl, inr, true≢false, bytes_eq, get_or-set_same, get_or-set_other, length-set, if◌then◌else◌}
use Rattle.std.specs.FinMap as finite
use Rattle.std.specs.List.{AllByRecursion}
use Rattle.std.proofs.lemmas.Option.{slice_get_cases}
use Rattle.std.proofs.lemmas.Slice.Eq.{bytes_eq-Decides}
use Rattle.saw_messages.specs.declared.outcome.Change.{Change}
use Rattle.saw_ready.specs.Hits.{IsIn}
use Rattle.saw_ready.specs.Sets.{IsEmpty, NoneIn}
use Rattle.saw_schedule.specs.Lasts.{changes_at, lefts_at}
use Rattle.saw_schedule.specs.Layering.{AreLastsOf, IsChangedBy, IsRightAt, lefts_to}
use Rattle.saw_schedule.specs.Places.{place_in}
use Rattle.saw_schedule.specs.Shown.{is_held_at, last_held, shown_by}
use Rattle.saw_schedule.specs.declared.lasts.Lasts.{Lasts}
use Rattle.saw_schedule.specs.declared.lasts.Left.{Left}
use Rattle.saw_schedule.specs.declared.slots.Slots.{Slots}
use Rattle.saw_schedule.specs.declared.step.Step.{Step}
use Rattle.saw_schedule.proofs.Lefts.{all-take, same-last}

module _ (steps : List Step) (slots : Slots) where
  abbrev test : Left → Bool
  test = is_held_at steps slots

  -- ---- an address's list is shortened

  module _ (old new : Lasts) (at : List ℕ) (so : AreLastsOf steps slots old) (n : ℕ) (here : lefts_at new at ≡ take n (lefts_at old at))
      (held : filter test (lefts_at new at) ≡ filter test (lefts_at old at)) (others : (q : List ℕ) → bytes_eq at q ≡ false → lefts_at new q ≡ lefts_at old q)
      (layers : new.layers ≡ old.layers) (undone : new.undone ≡ old.undone) (wide : new.wide ≡ old.wide) (place : new.place ≡ old.place) (change : new.change ≡ old.change) where
    same-held : (q : List ℕ) (b : Bool) → bytes_eq at q ≡ b → filter test (lefts_at new q) ≡ filter test (lefts_at old q)
    same-held q true e = subst (λ (x : List ℕ). filter test (lefts_at new x) ≡ filter test (lefts_at old x)) ((bytes_eq-Decides at q).0 e) held
    same-held q false e = ap (filter test) (others q e)

    still-below : (q : List ℕ) (b : Bool) → bytes_eq at q ≡ b → AllByRecursion (λ left. left.place < length steps) (lefts_at new q)
    still-below q true e = subst (λ (x : List ℕ). AllByRecursion (λ left. left.place < length steps) (lefts_at new x)) ((bytes_eq-Decides at q).0 e)
        (rw here (all-take (λ (left : Left). left.place < length steps) n (lefts_at old at) (so.below at)))
    still-below q false e = rw (others q e) (so.below q)

    still-none : (q : List ℕ) → length q ≢ 35 → (b : Bool) → bytes_eq at q ≡ b → lefts_at new q ≡ []
    still-none q short true e = subst (λ (x : List ℕ). lefts_at new x ≡ []) ((bytes_eq-Decides at q).0 e)
        (here ∙ (ap (take n) (so.only at (λ long. short (sym (ap (λ (x : List ℕ). length x) ((bytes_eq-Decides at q).0 e)) ∙ long))) ∙ none-of n))
      where
        none-of : (n : ℕ) → take {A = Left} n [] ≡ []
        none-of zero = refl
        none-of (suc n) = refl
    still-none q short false e = others q e ∙ so.only q short

    pub shortened : AreLastsOf steps slots new
    shortened = record {
      within = rw place so.within;
      some = rw (place, change) so.some;
      below = λ q. still-below q (bytes_eq at q) refl;
      are = λ q. rw (place, change) (same-held q (bytes_eq at q) refl ∙ so.are q);
      only = λ q short. still-none q short (bytes_eq at q) refl;
      shown = λ q. rw (place, change, layers, undone, wide) (so.shown q);
      idle = rw undone so.idle;
    }

  -- the last that is kept is the last of all
  pub last-is : (lasts : Lasts) (at : List ℕ) → AreLastsOf steps slots lasts → last_held test (lefts_at lasts at) ≡ last_held test (lefts_to steps lasts.place lasts.change at)
  last-is lasts at so = same-last test (lefts_at lasts at) (lefts_to steps lasts.place lasts.change at) (so.are at)

  -- ---- an address is shown anew

  module _ (old new : Lasts) (at : List ℕ) (so : AreLastsOf steps slots old)
      (layers : (q : List ℕ) → finite.get new.layers q
      ≡ (if bytes_eq at q then shown_by steps (last_held test (lefts_to steps old.place old.change at)) else finite.get old.layers q))
      (lists : new.lists ≡ old.lists) (undone : new.undone ≡ old.undone) (wide : new.wide ≡ old.wide) (place : new.place ≡ old.place) (change : new.change ≡ old.change) where
    right-here : (q : List ℕ) → bytes_eq at q ≡ true → IsRightAt steps slots new q
    right-here q e = λ _.
        layers q ∙ rw (e, place, change)
        (ap (λ (x : List ℕ). shown_by steps (last_held test (lefts_to steps old.place old.change x))) ((bytes_eq-Decides at q).0 e))

    pub right-other : (q : List ℕ) → IsRightAt steps slots old q → IsRightAt steps slots new q
    right-other q right = go (bytes_eq at q) refl
      where
        go : (b : Bool) → bytes_eq at q ≡ b → IsRightAt steps slots new q
        go true e = right-here q e
        go false e = λ is_wide. layers q ∙ rw (e, place, change) (right (sym wide ∙ is_wide))

    pub right-now : IsRightAt steps slots new at
    right-now = right-here at ((bytes_eq-Decides at at).1 refl)

    pub shown-anew : AreLastsOf steps slots new
    shown-anew = record {
      within = rw place so.within;
      some = rw (place, change) so.some;
      below = λ q. rw lists (so.below q);
      are = λ q. rw (place, change, lists) (so.are q);
      only = λ q short. rw lists (so.only q short);
      shown = λ q. elim (so.shown q) [
        | inl right ↦ inl (right-other q right)
        | inr lost ↦ inr (rw undone lost)
      ];
      idle = rw undone so.idle;
    }

  -- ---- an undone result was gone through

  module _ (old new : Lasts) (k : ℕ) (so : AreLastsOf steps slots old) (inside : k < length old.undone) (right : (at : List ℕ) → IsChangedBy steps (place_in slots.kept.items k) at → IsRightAt steps slots old at)
      (lists : new.lists ≡ old.lists) (layers : new.layers ≡ old.layers) (undone : new.undone ≡ set old.undone k false) (wide : new.wide ≡ old.wide) (place : new.place ≡ old.place) (change : new.change ≡ old.change) where
    same-or : (a b : ℕ) → (a ≡ b) ⊎ (a ≢ b)
    same-or a b = grind arith

    was-in : (i : ℕ) → IsIn new.undone i → IsIn old.undone i
    was-in i in_it = elim (same-or i k) [
      | inl here ↦ absurd (true≢false (sym in_it ∙ (ap (λ (flags : List Bool). get_or flags i false) undone ∙ (ap (λ (j : ℕ). get_or (set old.undone k false) j false) here ∙ get_or-set_same old.undone k false false inside))))
      | inr apart ↦ sym (ap (λ (flags : List Bool). get_or flags i false) undone ∙ get_or-set_other old.undone k i false false apart) ∙ in_it
    ]

    is-in : (i : ℕ) → i ≢ k → IsIn old.undone i → IsIn new.undone i
    is-in i apart in_it = ap (λ (flags : List Bool). get_or flags i false) undone ∙ (get_or-set_other old.undone k i false false apart ∙ in_it)

    right-so : (q : List ℕ) → IsRightAt steps slots old q → IsRightAt steps slots new q
    right-so q here = λ is_wide. rw (layers, place, change) (here (sym wide ∙ is_wide))

    pub gone-through : AreLastsOf steps slots new
    gone-through = record {
      within = rw place so.within;
      some = rw (place, change) so.some;
      below = λ q. rw lists (so.below q);
      are = λ q. rw (place, change, lists) (so.are q);
      only = λ q short. rw lists (so.only q short);
      shown = λ q. elim (so.shown q) [
        | inl here ↦ inl (right-so q here)
        | inr lost ↦ elim (same-or lost.0 k) [
          | inl same ↦ inl (right-so q (right q (subst (λ (i : ℕ). IsChangedBy steps (place_in slots.kept.items i) q) same lost.2)))
          | inr apart ↦ inr (lost.0, is-in lost.0 apart lost.1, lost.2)
        ]
      ];
      idle = record {
        long = ap (λ (flags : List Bool). length flags) undone ∙ (length-set old.undone k false ∙ so.idle.long);
        are = λ i in_it. so.idle.are i (was-in i in_it);
      };
    }

-- ---- changes of one result

-- of so many changes each address is right
abbrev pub AreRightTo : List Step → Slots → Lasts → ℕ → ℕ → Type 0
AreRightTo steps slots lasts place n = (m : ℕ) (change : Change) → m < n → slice_get (changes_at steps place) m ≡ Some change → IsRightAt steps slots lasts change.address

pub right-more : (steps : List Step) (slots : Slots) (old new : Lasts) (place n : ℕ) (change : Change) → slice_get (changes_at steps place) n ≡ Some change
    → ((q : List ℕ) → IsRightAt steps slots old q → IsRightAt steps slots new q) → IsRightAt steps slots new change.address → AreRightTo steps slots old place n → AreRightTo steps slots new place (n + 1)
right-more steps slots old new place n change there keeps here so_far m other less stands = go (lt-or-is m n less)
  where
    lt-or-is : (a b : ℕ) → a < b + 1 → (a < b) ⊎ (a ≡ b)
    lt-or-is a b l = grind (arith, l)

    some-same : (a b : Change) → Some a ≡ Some b → a ≡ b
    some-same a b same = cc

    go : (m < n) ⊎ (m ≡ n) → IsRightAt steps slots new other.address
    go (inl under) = keeps other.address (so_far m other under stands)
    go (inr same) =
        let is : change ≡ other = some-same change other (sym there ∙ (ap (λ (i : ℕ). slice_get (changes_at steps place) i) (sym same) ∙ stands)) in
        subst (λ (one : Change). IsRightAt steps slots new one.address) is here

-- none is left, so all are right
pub all-right : (steps : List Step) (slots : Slots) (lasts : Lasts) (place n : ℕ) → slice_get (changes_at steps place) n ≡ None → AreRightTo steps slots lasts place n
    → (at : List ℕ) → IsChangedBy steps place at → IsRightAt steps slots lasts at
all-right steps slots lasts place n none so_far at by =
    subst (λ (x : List ℕ). IsRightAt steps slots lasts x) ((bytes_eq-Decides by.1.address at).0 by.3) (so_far by.0 by.1 less by.2)
  where
    less : by.0 < n
    less = elim (slice_get_cases (changes_at steps place) n).1 [
      | inl found ↦ absurd (none≢some found.0 (sym none ∙ found.2))
      | inr past ↦ elim (slice_get_cases (changes_at steps place) by.0).1 [
        | inl found ↦ let low : by.0 < length (changes_at steps place) = found.1 in let high : length (changes_at steps place) ≤ n = past.0 in omega (arith, low, high)
        | inr out ↦ absurd (none≢some by.1 (sym out.1 ∙ by.2))
      ]
    ]
      where
        none≢some : (one : Change) → None ≡ Some one → ⊥
        none≢some one e = grind arith

-- ---- one after another

pub none-before : (flags : List Bool) (from k : ℕ) → NoneIn flags 0 from → NoneIn flags from k → k < length flags → NoneIn (set flags k false) 0 (k + 1)
none-before flags from k first second inside i low high = elim (same-or i k) [
  | inl here ↦ ap (λ (j : ℕ). get_or (set flags k false) j false) here ∙ get_or-set_same flags k false false inside
  | inr apart ↦ get_or-set_other flags k i false false apart ∙ go (lt-or-le i from) apart
]
  where
    same-or : (a b : ℕ) → (a ≡ b) ⊎ (a ≢ b)
    same-or a b = grind arith

    lt-or-le : (a b : ℕ) → (a < b) ⊎ (b ≤ a)
    lt-or-le a b = grind arith

    go : (i < from) ⊎ (from ≤ i) → i ≢ k → get_or flags i false ≡ false
    go (inl under) apart = first i (omega arith) under
    go (inr over) apart = second i over (omega (arith, high, apart))

pub all-empty : (flags : List Bool) (from : ℕ) → NoneIn flags 0 from → NoneIn flags from (length flags) → IsEmpty flags
all-empty flags from first second i = elim (lt-or-le i from) [
  | inl under ↦ first i (omega arith) under
  | inr over ↦ elim (lt-or-le i (length flags)) [
    | inl inside ↦ second i over inside
    | inr past ↦ beyond flags i past
  ]
]
  where
    lt-or-le : (a b : ℕ) → (a < b) ⊎ (b ≤ a)
    lt-or-le a b = grind arith

    beyond : (flags : List Bool) (i : ℕ) → length flags ≤ i → get_or flags i false ≡ false
    beyond [] i past = refl
    beyond (x ∷ flags) zero past = absurd (omega (arith, past))
    beyond (x ∷ flags) (suc i) past = beyond flags i (omega (arith, past))
