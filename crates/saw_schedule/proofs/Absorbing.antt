-- Changes gone through, one after another.
use Rattle.std.proofs.Common.{◌≢◌, ◌≡◌, ◌<◌, ◌≤◌, ◌+◌, ◌-◌, ℕ, suc, Bool, true, false, List, [], ◌∷◌, ◌++◌, filter, length, take, Some, None, slice_get, refl, sym, ap, subst, ◌∙◌, arith, bytes_eq, append-nil, if◌then◌else◌, ◌⊎◌, inl, inr, true≢false}
use Rattle.std.specs.FinMap as finite
use Rattle.std.specs.List.{AllByRecursion}
use Rattle.std.proofs.lemmas.List.{append_assoc, length-take-le, take_all, take_more}
use Rattle.std.proofs.lemmas.Option.{slice_get_cases, get_or_from_slice_get}
use Rattle.std.proofs.lemmas.Slice.Eq.{bytes_eq-Decides}
use Rattle.saw_messages.specs.declared.outcome.Change.{Change}
use Rattle.saw_schedule.specs.Lasts.{IsAdded, changes_at, changes_in, lefts_at, lefts_in, lefts_of}
use Rattle.saw_schedule.specs.Layering.{AreLastsOf, Holds, IsUndoneAt, lefts_to}
use Rattle.saw_schedule.specs.Shown.{entry_at, is_held_at, last_held, shown_by}
use Rattle.saw_schedule.specs.declared.lasts.Lasts.{Lasts}
use Rattle.saw_schedule.specs.declared.lasts.Left.{Left}
use Rattle.saw_schedule.specs.declared.slots.Slots.{Slots}
use Rattle.saw_schedule.specs.declared.step.Step.{Step}
use Rattle.saw_schedule.proofs.Lefts.{all-append, filter-append, last-append, last-passed, place-there}

-- a change, where it is of the address
abbrev pub one_if : ℕ → ℕ → Change → List ℕ → List Left
one_if place n change at = if bytes_eq change.address at then record { place = place; change = n } ∷ [] else []

-- one more change at the end
pub lefts_in-push : (place n m : ℕ) (changes : List Change) (change : Change) (at : List ℕ) → m ≡ n + length changes
    → lefts_in place n (changes ++ change ∷ []) at ≡ lefts_in place n changes at ++ one_if place m change at
lefts_in-push place n m [] change at e = let f : m ≡ n = omega arith in rw f (append-nil (one_if place n change at))
lefts_in-push place n m (first ∷ changes) change at e =
    rw (lefts_in-push place (suc n) m changes change at (omega arith)) (sym (append_assoc (one_if place n first at) (lefts_in place (suc n) changes at) (one_if place m change at)))

-- one more step at the end
pub lefts_of-push : (place m : ℕ) (steps : List Step) (step : Step) (at : List ℕ) → m ≡ place + length steps
    → lefts_of place (steps ++ step ∷ []) at ≡ lefts_of place steps at ++ lefts_in m 0 (changes_in step) at
lefts_of-push place m [] step at e = let f : m ≡ place = omega arith in rw f (append-nil (lefts_in place 0 (changes_in step) at))
lefts_of-push place m (first ∷ steps) step at e =
    rw (lefts_of-push (suc place) m steps step at (omega arith)) (sym (append_assoc (lefts_in place 0 (changes_in first) at) (lefts_of (suc place) steps at) (lefts_in m 0 (changes_in step) at)))

-- ---- one more change

module _ (steps : List Step) (slots : Slots) (old : Lasts) (change : Change) (so : AreLastsOf steps slots old) (there : slice_get (changes_at steps old.place) old.change ≡ Some change) where
  abbrev mine : List Change
  mine = changes_at steps old.place

  abbrev test : Left → Bool
  test = is_held_at steps slots

  abbrev left : Left
  left = record { place = old.place; change = old.change }

  abbrev before : List ℕ → List Left
  before at = lefts_to steps old.place old.change at

  abbrev after : List ℕ → List Left
  after at = lefts_to steps old.place (old.change + 1) at

  pub inside : old.change < length mine
  inside = elim (slice_get_cases mine old.change).1 [
    | inl found ↦ found.1
    | inr past ↦ absurd (some≢none (sym there ∙ past.1))
  ]
    where
      some≢none : (Some change ≡ None → ⊥)
      some≢none e = grind arith

  taken : take (old.change + 1) mine ≡ take old.change mine ++ change ∷ []
  taken = take_more mine old.change change inside ∙ ap (λ (one : Change). take old.change mine ++ one ∷ []) (get_or_from_slice_get mine old.change change change there)

  -- one change more was gone through
  after-is : (at : List ℕ) → after at ≡ before at ++ one_if old.place old.change change at
  after-is at =
      rw (taken, lefts_in-push old.place 0 old.change (take old.change mine) change at (let long : length (take old.change mine) ≡ old.change = length-take-le old.change mine (let i = inside in omega (arith, i)) in omega (arith, long)))
      (sym (append_assoc (lefts_of 0 (take old.place steps) at) (lefts_in old.place 0 (take old.change mine) at) (one_if old.place old.change change at)))

  within-place : old.place < length steps
  within-place = place-there steps old.place old.change change there

  -- the address's own
  here-is : (at : List ℕ) → bytes_eq change.address at ≡ true → after at ≡ before at ++ left ∷ []
  here-is at e = after-is at ∙ rw e refl

  other-is : (at : List ℕ) → bytes_eq change.address at ≡ false → after at ≡ before at
  other-is at e = after-is at ∙ (rw e (append-nil (before at)))

  module _ (new : Lasts) (added : IsAdded old new change.address left) (held : test left ≡ true)
      (layers : old.wide ≡ true → (q : List ℕ) → finite.get new.layers q ≡ (if bytes_eq change.address q then entry_at steps left else finite.get old.layers q)) (undone : new.undone ≡ old.undone) where
    list-here : (at : List ℕ) → bytes_eq change.address at ≡ true → lefts_at new at ≡ lefts_at old at ++ left ∷ []
    list-here at e = subst (λ (x : List ℕ). lefts_at new x ≡ lefts_at old x ++ left ∷ []) ((bytes_eq-Decides change.address at).0 e) added.here

    list-other : (at : List ℕ) → bytes_eq change.address at ≡ false → lefts_at new at ≡ lefts_at old at
    list-other at e = added.others at (λ is. absurd (true≢false (sym ((bytes_eq-Decides change.address at).1 (sym is)) ∙ e)))

    next : Lasts
    next = record { lists = new.lists; layers = new.layers; undone = new.undone; wide = old.wide; place = old.place; change = old.change + 1 }

    below : (at : List ℕ) (b : Bool) → bytes_eq change.address at ≡ b → AllByRecursion (λ one. one.place < length steps) (lefts_at new at)
    below at true e = rw (list-here at e) (all-append (λ (one : Left). one.place < length steps) (lefts_at old at) (left ∷ []) (so.below at) (within-place, tt))
    below at false e = rw (list-other at e) (so.below at)

    are : (at : List ℕ) (b : Bool) → bytes_eq change.address at ≡ b → filter test (lefts_at new at) ≡ filter test (after at)
    are at true e =
        rw (list-here at e, here-is at e, filter-append test (lefts_at old at) (left ∷ []), filter-append test (before at) (left ∷ []))
        (ap (λ (all : List Left). all ++ filter test (left ∷ [])) (so.are at))
    are at false e = rw (list-other at e, other-is at e) (so.are at)

    only : (at : List ℕ) → length at ≢ 35 → (b : Bool) → bytes_eq change.address at ≡ b → lefts_at new at ≡ []
    only at short true e = absurd (short (sym (ap (λ (x : List ℕ). length x) ((bytes_eq-Decides change.address at).0 e)) ∙ added.whole))
    only at short false e = list-other at e ∙ so.only at short

    shown : (at : List ℕ) (b : Bool) → bytes_eq change.address at ≡ b
        → (old.wide ≡ true → finite.get new.layers at ≡ shown_by steps (last_held test (after at))) ⊎ IsUndoneAt steps slots new.undone at
    shown at true e = inl (λ wide. layers wide at ∙ rw (e, here-is at e, last-append test (before at) left held) refl)
    shown at false e = elim (so.shown at) [
      | inl right ↦ inl (λ wide. layers wide at ∙ rw (e, other-is at e) (right wide))
      | inr lost ↦ inr (rw undone lost)
    ]

    -- a held change more
    pub one-more-left : AreLastsOf steps slots (record { lists = new.lists; layers = new.layers; undone = new.undone; wide = old.wide; place = old.place; change = old.change + 1 })
    one-more-left = record {
      within = so.within;
      some = let i = inside in omega (arith, i);
      below = λ at. below at (bytes_eq change.address at) refl;
      are = λ at. are at (bytes_eq change.address at) refl;
      only = λ at short. only at short (bytes_eq change.address at) refl;
      shown = λ at. shown at (bytes_eq change.address at) refl;
      idle = rw undone so.idle;
    }

  -- a change more that is not held
  pub one-passed : test left ≡ false → AreLastsOf steps slots (record { lists = old.lists; layers = old.layers; undone = old.undone; wide = old.wide; place = old.place; change = old.change + 1 })
  one-passed fails = record {
    within = so.within;
    some = let i = inside in omega (arith, i);
    below = so.below;
    are = λ at. so.are at ∙ sym (same at (bytes_eq change.address at) refl);
    only = so.only;
    shown = λ at. elim (so.shown at) [
      | inl right ↦ inl (λ wide. right wide ∙ ap (shown_by steps) (sym (last at (bytes_eq change.address at) refl)))
      | inr lost ↦ inr lost
    ];
    idle = so.idle;
  }
    where
      same : (at : List ℕ) (b : Bool) → bytes_eq change.address at ≡ b → filter test (after at) ≡ filter test (before at)
      same at true e = rw (here-is at e, filter-append test (before at) (left ∷ []), fails) (append-nil (filter test (before at)))
      same at false e = rw (other-is at e) refl

      last : (at : List ℕ) (b : Bool) → bytes_eq change.address at ≡ b → last_held test (after at) ≡ last_held test (before at)
      last at true e = rw (here-is at e) (last-passed test (before at) left fails)
      last at false e = rw (other-is at e) refl

-- the next change was gone through
pub next-through : (steps : List Step) (slots : Slots) (old new : Lasts) (change : Change) → AreLastsOf steps slots old → slice_get (changes_at steps old.place) old.change ≡ Some change
    → Holds steps slots old new change.address (record { place = old.place; change = old.change }) → new.undone ≡ old.undone
    → AreLastsOf steps slots (record { lists = new.lists; layers = new.layers; undone = new.undone; wide = old.wide; place = old.place; change = old.change + 1 })
next-through steps slots old new change so there holds undone = go (is_held_at steps slots (record { place = old.place; change = old.change })) refl
  where
    go : (b : Bool) → is_held_at steps slots (record { place = old.place; change = old.change }) ≡ b
        → AreLastsOf steps slots (record { lists = new.lists; layers = new.layers; undone = new.undone; wide = old.wide; place = old.place; change = old.change + 1 })
    go true e = one-more-left steps slots old change so there new (holds.added e) e (holds.shown e) undone
    go false e = let same = holds.passed e in rw (same.0, same.1, undone) (one-passed steps slots old change so there e)

-- all changes of a step were seen
module _ (steps : List Step) (slots : Slots) (lasts : Lasts) (so : AreLastsOf steps slots lasts) (further : lasts.place < length steps)
    (none : slice_get (changes_at steps lasts.place) lasts.change ≡ None) where
  abbrev all_mine : List Change
  all_mine = changes_at steps lasts.place

  past_all : length all_mine ≤ lasts.change
  past_all = elim (slice_get_cases all_mine lasts.change).1 [
    | inl found ↦ absurd (none≢some found.0 (sym none ∙ found.2))
    | inr past ↦ past.0
  ]
    where
      none≢some : (one : Change) → None ≡ Some one → ⊥
      none≢some one e = grind arith

  all_over : (at : List ℕ) → lefts_to steps lasts.place lasts.change at ≡ lefts_to steps (lasts.place + 1) 0 at
  all_over at = elim (slice_get_cases steps lasts.place).1 [
    | inl found ↦
        let taken : take (lasts.place + 1) steps ≡ take lasts.place steps ++ found.0 ∷ [] = take_more steps lasts.place found.0 further ∙ ap (λ (one : Step). take lasts.place steps ++ one ∷ []) found.3 in
        let is : all_mine ≡ changes_in found.0 = rw found.2 refl in
        rw (taken, append-nil (lefts_of 0 (take lasts.place steps ++ found.0 ∷ []) at), take_all lasts.change all_mine past_all, is)
        (sym (lefts_of-push 0 lasts.place (take lasts.place steps) found.0 at (let long : length (take lasts.place steps) ≡ lasts.place = length-take-le lasts.place steps (omega (arith, further)) in omega (arith, long))))
    | inr past ↦ absurd (let p : length steps ≤ lasts.place = past.0 in omega (arith, further, p))
  ]

  pub step-over : AreLastsOf steps slots (record { lists = lasts.lists; layers = lasts.layers; undone = lasts.undone; wide = lasts.wide; place = lasts.place + 1; change = 0 })
  step-over = record {
    within = omega (arith, further);
    some = omega arith;
    below = so.below;
    are = λ at. so.are at ∙ ap (filter (is_held_at steps slots)) (all_over at);
    only = so.only;
    shown = λ at. elim (so.shown at) [
      | inl right ↦ inl (λ wide. right wide ∙ ap (λ (all : List Left). shown_by steps (last_held (is_held_at steps slots) all)) (all_over at))
      | inr lost ↦ inr lost
    ];
    idle = so.idle;
  }

-- where nothing was added all stays so
pub same-lefts : (steps : List Step) (slots : Slots) (old new : Lasts) → AreLastsOf steps slots old → ((at : List ℕ) → lefts_at new at ≡ lefts_at old at) → new.layers ≡ old.layers → new.undone ≡ old.undone
    → new.wide ≡ old.wide → new.place ≡ old.place → new.change ≡ old.change → AreLastsOf steps slots new
same-lefts steps slots old new so same layers undone wide place change = record {
  within = rw place so.within;
  some = rw (place, change) so.some;
  below = λ at. rw (same at) (so.below at);
  are = λ at. rw (place, change, same at) (so.are at);
  only = λ at short. same at ∙ so.only at short;
  shown = λ at. rw (place, change, layers, undone, wide) (so.shown at);
  idle = rw undone so.idle;
}

pub smaller : (count : ℕ → ℕ) (place old_place change old_change : ℕ) → place ≡ old_place → change ≡ old_change → old_change < count old_place
    → count place - (change + 1) < count old_place - old_change
smaller count place old_place change old_change p q more = rw (p, q) (omega (arith, more))
