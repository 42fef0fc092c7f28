-- What the layers show goes on to be right while results come and are undone.
use Rattle.std.proofs.Common.{◌≡◌, ◌≢◌, ◌<◌, ◌≤◌, ◌+◌, ◌&&◌, ◌==◌, ℕ, zero, suc, Bool, true, false, List, [], ◌∷◌, ◌++◌, filter, length, take, get_or, Option, Some, None, slice_get, refl, sym, ap, subst, ◌∙◌, arith, ◌⊎◌, inl, inr, true≢false, get_or-set_same, get_or-set_other, length-set, length-append}
use Rattle.std.specs.List.{AllByRecursion}
use Rattle.std.proofs.lemmas.Bool.{eqb-true}
use Rattle.std.proofs.lemmas.List.{append-nil, take-append-le, take_all}
use Rattle.saw_messages.specs.declared.outcome.Change.{Change}
use Rattle.saw_context.specs.declared.job.Done.{Done}
use Rattle.saw_ready.specs.Hits.{IsIn}
use Rattle.saw_ready.specs.Marks.{is_valid}
use Rattle.saw_ready.specs.Queues.{Waits, with_mark}
use Rattle.saw_ready.specs.Resets.{IsFailed, failed_mark}
use Rattle.saw_ready.specs.Undone.{AreNoted, IsIdle}
use Rattle.saw_ready.specs.declared.edges.Edges.{Edges}
use Rattle.saw_ready.specs.declared.slot_state.SlotState.{SlotState}
use Rattle.saw_ready.specs.declared.slot_state.SlotState.TheVariants as marks
use Rattle.saw_schedule.specs.Lasts.{changes_at, changes_if, lefts_at, lefts_of}
use Rattle.saw_schedule.specs.Layering.{AreIdle, AreLastsOf, IsChangedBy, IsRightAt, IsUndoneAt, lefts_to}
use Rattle.saw_schedule.specs.Places.{place_by, place_in}
use Rattle.saw_schedule.specs.Settling.{LeavesUndone}
use Rattle.saw_schedule.specs.Shown.{done_at, done_by, entry_at, entry_by, is_held_at, is_held_by, is_place_of, last_held, shown_at, shown_by}
use Rattle.saw_schedule.specs.declared.kept.Kept.{Kept}
use Rattle.saw_schedule.specs.declared.lasts.Lasts.{Lasts}
use Rattle.saw_schedule.specs.declared.lasts.Left.{Left}
use Rattle.saw_schedule.specs.declared.slots.Slots.{Slots}
use Rattle.saw_schedule.specs.declared.step.Step.{Step}
use Rattle.saw_schedule.specs.declared.step.Step.TheVariants.{Take}
use Rattle.saw_schedule.proofs.Lefts.{IsChangeOf, all-stand, all-weaker, none-past, of-last, place-there, same-or-found, same-within}

-- the change is of a result that is held no more
abbrev pub IsUndoneBy : Slots → List Bool → Left → Type 0
IsUndoneBy slots undone left = (i : ℕ) × IsIn undone i × (place_in slots.kept.items i ≡ left.place)

-- what the steps were they are, and whatever is held differently is held no more and noted
pub record Goes (steps steps' : List Step) (slots slots' : Slots) (undone undone' : List Bool) : Type 0 where
  pub longer : length steps ≤ length steps'
  pub gets : (place : ℕ) → place < length steps → slice_get steps' place ≡ slice_get steps place
  pub takes : (place : ℕ) → place ≤ length steps → take place steps' ≡ take place steps
  pub held : (left : Left) → left.place < length steps → (is_held_at steps' slots' left ≡ is_held_at steps slots left) ⊎ ((is_held_at steps' slots' left ≡ false) × IsUndoneBy slots' undone' left)
  pub undone_on : (at : List ℕ) → IsUndoneAt steps slots undone at → IsUndoneAt steps' slots' undone' at
  pub idle : AreIdle slots'.queue.marks undone'

abbrev pub with_undone : Lasts → List Bool → Lasts
with_undone lasts undone = record { lists = lasts.lists; layers = lasts.layers; undone = undone; wide = lasts.wide; place = lasts.place; change = lasts.change }

le-cases : (a b : ℕ) → a ≤ b → (a < b) ⊎ (a ≡ b)
le-cases a b l = grind (arith, l)

module _ (steps steps' : List Step) (slots slots' : Slots) (undone' : List Bool) (lasts : Lasts) (so : AreLastsOf steps slots lasts) (goes : Goes steps steps' slots slots' lasts.undone undone') where
  abbrev was : Left → Bool
  was = is_held_at steps slots

  abbrev is : Left → Bool
  is = is_held_at steps' slots'

  changes-same : (place : ℕ) → place < length steps → changes_at steps' place ≡ changes_at steps place
  changes-same place less = ap changes_if (goes.gets place less)

  -- the first few changes at the place
  few-same : (lasts.change ≤ length (changes_at steps' lasts.place)) × (take lasts.change (changes_at steps' lasts.place) ≡ take lasts.change (changes_at steps lasts.place))
  few-same = elim (le-cases lasts.place (length steps) so.within) [
    | inl less ↦ (rw (changes-same lasts.place less) so.some, ap (take lasts.change) (changes-same lasts.place less))
    | inr past ↦
        let none : changes_at steps lasts.place ≡ [] = none-past steps lasts.place (omega (arith, past)) in
        let few : lasts.change ≤ 0 = subst (λ (all : List Change). lasts.change ≤ length all) none so.some in
        let zero_is : lasts.change ≡ 0 = omega (arith, few) in
        (rw zero_is (omega arith), rw zero_is refl)
  ]

  to-same : (at : List ℕ) → lefts_to steps' lasts.place lasts.change at ≡ lefts_to steps lasts.place lasts.change at
  to-same at = rw (goes.takes lasts.place so.within, few-same.1) refl

  -- what is held was
  was-held : (left : Left) → left.place < length steps → is left ≡ true → was left ≡ true
  was-held left inside held = elim (goes.held left inside) [
    | inl same ↦ sym same ∙ held
    | inr lost ↦ absurd (true≢false (sym held ∙ lost.0))
  ]

  stand-inside : (at : List ℕ) → AllByRecursion (λ left. is left ≡ true → was left ≡ true) (lefts_to steps lasts.place lasts.change at)
  stand-inside at = all-weaker (IsChangeOf steps at) (λ left. is left ≡ true → was left ≡ true) (lefts_to steps lasts.place lasts.change at)
      (λ left stands. was-held left (place-there steps left.place left.change stands.0 stands.1)) (all-stand steps at lasts.place lasts.change)

  -- what a change leaves it goes on to leave
  entry-same : (left : Left) → left.place < length steps → entry_at steps' left ≡ entry_at steps left
  entry-same left inside = ap (λ (step : Option Step). entry_by left.change (done_by step)) (goes.gets left.place inside)

  shown-same : (at : List ℕ) (found : Option Left) → last_held was (lefts_to steps lasts.place lasts.change at) ≡ found → shown_by steps' found ≡ shown_by steps found
  shown-same at None e = refl
  shown-same at (Some left) e =
      let stands = of-last (IsChangeOf steps at) was (lefts_to steps lasts.place lasts.change at) left (all-stand steps at lasts.place lasts.change) e in
      entry-same left (place-there steps left.place left.change stands.0 stands.1)

  -- where nothing was lost what is shown is right
  right-still : (at : List ℕ) → IsRightAt steps slots lasts at → IsRightAt steps' slots' (with_undone lasts undone') at ⊎ IsUndoneAt steps' slots' undone' at
  right-still at right = elim (same-or-found (IsChangeOf steps at) (λ left. IsUndoneBy slots' undone' left) was is (lefts_to steps lasts.place lasts.change at) (all-stand steps at lasts.place lasts.change) each) [
    | inl same ↦ inl (λ wide. right wide ∙ (sym (shown-same at (last_held was (lefts_to steps lasts.place lasts.change at)) refl)
        ∙ (ap (shown_by steps') (sym same) ∙ ap (λ (all : List Left). shown_by steps' (last_held is all)) (sym (to-same at)))))
    | inr (left, stands, by) ↦
        let inside = place-there steps left.place left.change stands.0 stands.1 in
        let there : slice_get (changes_at steps' (place_in slots'.kept.items by.0)) left.change ≡ Some stands.0 =
        ap (λ (place : ℕ). slice_get (changes_at steps' place) left.change) by.2 ∙ (ap (λ (all : List Change). slice_get all left.change) (changes-same left.place inside) ∙ stands.1) in
        inr (by.0, by.1, (left.change, stands.0, there, stands.2))
  ]
    where
      each : (left : Left) → IsChangeOf steps at left → (is left ≡ was left) ⊎ IsUndoneBy slots' undone' left
      each left stands = elim (goes.held left (place-there steps left.place left.change stands.0 stands.1)) [
        | inl same ↦ inl same
        | inr lost ↦ inr lost.1
      ]

  pub goes-on : AreLastsOf steps' slots' (with_undone lasts undone')
  goes-on = record {
    within = let w = so.within in let l = goes.longer in omega (arith, w, l);
    some = few-same.0;
    below = λ at. all-weaker (λ left. left.place < length steps) (λ left. left.place < length steps') (lefts_at lasts at) (λ left less. let l = goes.longer in omega (arith, less, l)) (so.below at);
    are = λ at.
        same-within was is (lefts_at lasts at) (lefts_to steps lasts.place lasts.change at)
        (all-weaker (λ left. left.place < length steps) (λ left. is left ≡ true → was left ≡ true) (lefts_at lasts at) was-held (so.below at))
        (stand-inside at) (so.are at)
        ∙ ap (filter is) (sym (to-same at));
    only = so.only;
    shown = λ at. elim (so.shown at) [
      | inl right ↦ right-still at right
      | inr lost ↦ inr (goes.undone_on at lost)
    ];
    idle = goes.idle;
  }

-- where all steps were gone through all changes were
pub through : (steps : List Step) (place change : ℕ) → place ≡ length steps → (at : List ℕ) → lefts_to steps place change at ≡ lefts_of 0 steps at
through steps place change e at = rw (e, nothing, none-of change) (append-nil (lefts_of 0 (take (length steps) steps) at)
    ∙ ap (λ (all : List Step). lefts_of 0 all at) (take_all (length steps) steps (omega arith)))
  where
    none-of : (n : ℕ) → take {A = Change} n [] ≡ []
    none-of zero = refl
    none-of (suc n) = refl

    nothing : changes_at steps (length steps) ≡ []
    nothing = none-past steps (length steps) (omega arith)

-- ---- one slot is changed, and a step comes behind

get-before : {A : Type 0} (xs ys : List A) (n : ℕ) → n < length xs → slice_get (xs ++ ys) n ≡ slice_get xs n
get-before [] ys n less = absurd (omega arith)
get-before (x ∷ xs) ys zero less = refl
get-before (x ∷ xs) ys (suc n) less = get-before xs ys n (omega (arith, less))

same-or : (a b : ℕ) → (a ≡ b) ⊎ (a ≢ b)
same-or a b = grind arith

and-no : (a : Bool) → (a && false) ≡ false
and-no true = refl
and-no false = refl

-- the mark of a slot that holds no valid result was changed; if it holds one now, its result stands behind the steps
pub record Puts (steps : List Step) (slots slots' : Slots) (undone : List Bool) (k : ℕ) (m : SlotState) : Type 0 where
  pub inside : k < length slots.queue.marks
  pub queue : slots'.queue ≡ with_mark slots.queue k m
  pub others : (j : ℕ) → j ≢ k → slice_get slots'.kept.items j ≡ slice_get slots.kept.items j
  pub before : is_valid (get_or slots.queue.marks k marks.Waiting) ≡ false
  pub after : (is_valid m ≡ false) ⊎ (length steps ≤ place_in slots'.kept.items k)
  pub apart : IsIn undone k → ⊥

module _ (steps : List Step) (step : Step) (slots slots' : Slots) (lasts : Lasts) (k : ℕ) (m : SlotState) (so : AreLastsOf steps slots lasts) (puts : Puts steps slots slots' lasts.undone k m) where
  abbrev more : List Step
  more = steps ++ step ∷ []

  mark-here : get_or slots'.queue.marks k marks.Waiting ≡ m
  mark-here = ap (λ (q : Waits). get_or q.marks k marks.Waiting) puts.queue ∙ get_or-set_same slots.queue.marks k m marks.Waiting puts.inside

  mark-other : (j : ℕ) → j ≢ k → get_or slots'.queue.marks j marks.Waiting ≡ get_or slots.queue.marks j marks.Waiting
  mark-other j apart = ap (λ (q : Waits). get_or q.marks j marks.Waiting) puts.queue ∙ get_or-set_other slots.queue.marks k j m marks.Waiting apart

  held-put : (left : Left) → left.place < length steps → (done : Option Done) → is_held_by slots' left.place done ≡ is_held_by slots left.place done
  held-put left inside None = refl
  held-put left inside (Some done) = elim (same-or done.ticket.index k) [
    | inl here ↦ rw (here, puts.before, and-no (is_place_of left.place (slice_get slots.kept.items k)), mark-here) (at-k puts.after)
    | inr apart ↦ rw (puts.others done.ticket.index apart, mark-other done.ticket.index apart) refl
  ]
    where
      not-there : (one : Option Kept) → length steps ≤ place_by one → is_place_of left.place one ≡ false
      not-there None past = refl
      not-there (Some one) past = not-eq one.place past
        where
          not-eq : (place : ℕ) → length steps ≤ place → (place == left.place) ≡ false
          not-eq place l = grind (arith, l, inside)

      at-k : (is_valid m ≡ false) ⊎ (length steps ≤ place_in slots'.kept.items k) → (is_place_of left.place (slice_get slots'.kept.items k) && is_valid m) ≡ false
      at-k (inl invalid) = rw (invalid, and-no (is_place_of left.place (slice_get slots'.kept.items k))) refl
      at-k (inr past) = rw (not-there (slice_get slots'.kept.items k) past) refl

  pub goes-put : Goes steps more slots slots' lasts.undone lasts.undone
  goes-put = record {
    longer = let l : length more ≡ length steps + 1 = length-append steps (step ∷ []) in omega (arith, l);
    gets = λ place less. get-before steps (step ∷ []) place less;
    takes = λ place within. take-append-le place steps (step ∷ []) within;
    held = λ left inside. inl (ap (λ (one : Option Step). is_held_by slots' left.place (done_by one)) (get-before steps (step ∷ []) left.place inside) ∙ held-put left inside (done_at steps left.place));
    undone_on = λ at lost.
        let i = lost.0 in
        let apart : i ≢ k = λ e. puts.apart (subst (λ (n : ℕ). IsIn lasts.undone n) e lost.1) in
        let place : place_in slots'.kept.items i ≡ place_in slots.kept.items i = ap place_by (puts.others i apart) in
        let by : IsChangedBy steps (place_in slots.kept.items i) at = lost.2 in
        let inside = place-there steps (place_in slots.kept.items i) by.0 by.1 by.2 in
        let there : slice_get (changes_at more (place_in slots'.kept.items i)) by.0 ≡ Some by.1 =
        ap (λ (p : ℕ). slice_get (changes_at more p) by.0) place
        ∙ (ap (λ (one : Option Step). slice_get (changes_if one) by.0) (get-before steps (step ∷ []) (place_in slots.kept.items i) inside) ∙ by.2) in
        (i, lost.1, (by.0, by.1, there, by.3));
    idle = record {
      long = so.idle.long ∙ sym (ap (λ (q : Waits). length q.marks) puts.queue ∙ length-set slots.queue.marks k m);
      are = λ i in_it. subst IsIdle (sym (mark-other i (λ e. puts.apart (subst (λ (n : ℕ). IsIn lasts.undone n) e in_it)))) (so.idle.are i in_it);
    };
  }

  pub put-on : AreLastsOf more slots' lasts
  put-on = goes-on steps more slots slots' lasts.undone lasts so goes-put

-- ---- one slot is changed, and no step comes

module _ (steps : List Step) (slots slots' : Slots) (lasts : Lasts) (k : ℕ) (m : SlotState) (so : AreLastsOf steps slots lasts) (puts : Puts steps slots slots' lasts.undone k m) where
  -- any step serves
  abbrev some_step : Step
  some_step = Take (record { index = 0; attempt = 0 })

  held-marked : (left : Left) → left.place < length steps → is_held_at steps slots' left ≡ is_held_at steps slots left
  held-marked left inside = held-put steps some_step slots slots' lasts k m so puts left inside (done_at steps left.place)

  goes-marked : Goes steps steps slots slots' lasts.undone lasts.undone
  goes-marked = record {
    longer = omega arith;
    gets = λ place less. refl;
    takes = λ place within. refl;
    held = λ left inside. inl (held-marked left inside);
    undone_on = λ at lost.
        let apart : lost.0 ≢ k = λ e. puts.apart (subst (λ (n : ℕ). IsIn lasts.undone n) e lost.1) in
        (lost.0, lost.1, subst (λ (place : ℕ). IsChangedBy steps place at) (sym (ap place_by (puts.others lost.0 apart))) lost.2);
    idle = (goes-put steps some_step slots slots' lasts k m so puts).idle;
  }

  pub marked-on : AreLastsOf steps slots' lasts
  marked-on = goes-on steps steps slots slots' lasts.undone lasts so goes-marked

  -- what is shown is the same
  pub marked-shown : (at : List ℕ) → shown_at steps slots' at ≡ shown_at steps slots at
  marked-shown at = ap (shown_by steps) (elim (same-or-found (IsChangeOf steps at) (λ left. ⊥) (is_held_at steps slots) (is_held_at steps slots') (lefts_of 0 steps at) stand each) [
    | inl same ↦ same
    | inr (left, stands, never) ↦ absurd never
  ])
    where
      stand : AllByRecursion (IsChangeOf steps at) (lefts_of 0 steps at)
      stand = subst (λ (lefts : List Left). AllByRecursion (IsChangeOf steps at) lefts) (through steps (length steps) 0 refl at) (all-stand steps at (length steps) 0)

      each : (left : Left) → IsChangeOf steps at left → (is_held_at steps slots' left ≡ is_held_at steps slots left) ⊎ ⊥
      each left stands = inl (held-marked left (place-there steps left.place left.change stands.0 stands.1))

-- ---- batches are settled

module _ (steps : List Step) (slots slots' : Slots) (undone' : List Bool) (lasts : Lasts) (so : AreLastsOf steps slots lasts) (kept : slots'.kept ≡ slots.kept)
    (long : length slots'.queue.marks ≡ length slots.queue.marks) (leaves : LeavesUndone slots.queue.marks slots'.queue.marks lasts.undone undone') where
  valid_of : ℕ → Bool
  valid_of i = is_valid (get_or slots.queue.marks i marks.Waiting)

  place-is : (place : ℕ) (one : Option Kept) → is_place_of place one ≡ true → place_by one ≡ place
  place-is place None e = absurd (true≢false (sym e))
  place-is place (Some one) e = eqb-true one.place place e

  same-valid : (a b : Bool) → (b ≡ true → a ≡ true) → a ≡ false → b ≡ false
  same-valid a true f e = absurd (true≢false (sym (f refl) ∙ e))
  same-valid a false f e = refl

  held-settled : (left : Left) → (done : Option Done) → (is_held_by slots' left.place done ≡ is_held_by slots left.place done) ⊎ ((is_held_by slots' left.place done ≡ false) × IsUndoneBy slots' undone' left)
  held-settled left None = inl refl
  held-settled left (Some done) = by-place (is_place_of left.place (slice_get slots.kept.items done.ticket.index)) refl
    where
      i : ℕ
      i = done.ticket.index

      place-same : is_place_of left.place (slice_get slots'.kept.items done.ticket.index) ≡ is_place_of left.place (slice_get slots.kept.items done.ticket.index)
      place-same = ap (λ (all : _). is_place_of left.place (slice_get all.items done.ticket.index)) kept

      Cases : Type 0
      Cases = (is_held_by slots' left.place (Some done) ≡ is_held_by slots left.place (Some done)) ⊎ ((is_held_by slots' left.place (Some done) ≡ false) × IsUndoneBy slots' undone' left)

      both : is_valid (get_or slots'.queue.marks done.ticket.index marks.Waiting) ≡ is_valid (get_or slots.queue.marks done.ticket.index marks.Waiting) → Cases
      both same = inl (rw (place-same, same) refl)

      at-place : is_place_of left.place (slice_get slots.kept.items done.ticket.index) ≡ true → is_valid (get_or slots.queue.marks done.ticket.index marks.Waiting) ≡ true
          → (is_valid (get_or slots'.queue.marks done.ticket.index marks.Waiting) ≡ true) ⊎ IsIn undone' done.ticket.index
          → (b : Bool) → is_valid (get_or slots'.queue.marks done.ticket.index marks.Waiting) ≡ b → Cases
      at-place e valid noted true now = both (now ∙ sym valid)
      at-place e valid (inl still) false now = absurd (true≢false (sym still ∙ now))
      at-place e valid (inr in_it) false now = inr (
        rw (now, and-no (is_place_of left.place (slice_get slots'.kept.items done.ticket.index))) refl,
        (done.ticket.index, in_it, ap (λ (all : _). place_by (slice_get all.items done.ticket.index)) kept ∙ place-is left.place (slice_get slots.kept.items done.ticket.index) e),
      )

      by-place : (b : Bool) → is_place_of left.place (slice_get slots.kept.items done.ticket.index) ≡ b → Cases
      by-place false e = inl (rw (place-same, e) refl)
      by-place true e = by-valid (is_valid (get_or slots.queue.marks done.ticket.index marks.Waiting)) refl
        where
          by-valid : (b : Bool) → is_valid (get_or slots.queue.marks done.ticket.index marks.Waiting) ≡ b → Cases
          by-valid false v = both (same-valid (is_valid (get_or slots.queue.marks done.ticket.index marks.Waiting)) (is_valid (get_or slots'.queue.marks done.ticket.index marks.Waiting)) (leaves.valid done.ticket.index) v ∙ sym v)
          by-valid true v = at-place e v (leaves.noted.noted done.ticket.index v) (is_valid (get_or slots'.queue.marks done.ticket.index marks.Waiting)) refl

  pub goes-settled : Goes steps steps slots slots' lasts.undone undone'
  goes-settled = record {
    longer = omega arith;
    gets = λ place less. refl;
    takes = λ place within. refl;
    held = λ left inside. held-settled left (done_at steps left.place);
    undone_on = λ at lost. (lost.0, leaves.noted.kept lost.0 lost.1, subst (λ (all : _). IsChangedBy steps (place_in all.items lost.0) at) (sym kept) lost.2);
    idle = record {
      long = leaves.noted.long ∙ (so.idle.long ∙ sym long);
      are = λ i in_it. elim (leaves.noted.only i in_it) [
        | inl before ↦ leaves.idle i (so.idle.are i before)
        | inr lost ↦ lost.1
      ];
    };
  }

  pub settled-on : AreLastsOf steps slots' (with_undone lasts undone')
  settled-on = goes-on steps steps slots slots' undone' lasts so goes-settled

-- ---- marks while batches are settled

pub leaves-same : (marks undone : List _) → LeavesUndone marks marks undone undone
leaves-same marks undone = record {
  noted = record { long = refl; kept = λ i in_it. in_it; noted = λ i valid. inl valid; only = λ i in_it. inl in_it };
  valid = λ i valid. valid;
  idle = λ i idle. idle;
}

pub leaves-both : (a b c : List SlotState) (x y z : List Bool) → LeavesUndone a b x y → LeavesUndone b c y z → LeavesUndone a c x z
leaves-both a b c x y z first second = record {
  noted = record {
    long = second.noted.long ∙ first.noted.long;
    kept = λ i in_it. second.noted.kept i (first.noted.kept i in_it);
    noted = λ i valid. elim (first.noted.noted i valid) [
      | inl still ↦ second.noted.noted i still
      | inr in_it ↦ inr (second.noted.kept i in_it)
    ];
    only = λ i in_it. elim (second.noted.only i in_it) [
      | inl before ↦ elim (first.noted.only i before) [
        | inl earlier ↦ inl earlier
        | inr lost ↦ inr (lost.0, second.idle i lost.1)
      ]
      | inr lost ↦ inr (first.valid i lost.0, lost.1)
    ];
  };
  valid = λ i valid. first.valid i (second.valid i valid);
  idle = λ i idle. second.idle i (first.idle i idle);
}

-- a batch fails
pub leaves-failed : (preds : Edges) (first end : ℕ) (old new : List SlotState) (undone undone' : List Bool) → IsFailed preds first end old new → AreNoted old new undone undone' → LeavesUndone old new undone undone'
leaves-failed preds first end old new undone undone' failed noted = record {
  noted = noted;
  valid = λ i valid. subst (λ (m : SlotState). is_valid m ≡ true) (back-valid i valid) valid;
  idle = λ i idle. stays-idle i idle;
}
  where
    lt-or-le : (a b : ℕ) → (a < b) ⊎ (b ≤ a)
    lt-or-le a b = grind arith

    where-is : (i : ℕ) → (get_or new i marks.Waiting ≡ get_or old i marks.Waiting) ⊎ IsIdle (get_or new i marks.Waiting)
    where-is i = elim (lt-or-le i first) [
      | inl under ↦ inl (failed.before i under)
      | inr over ↦ elim (lt-or-le i end) [
        | inl within ↦ inr (inr (failed.members i over within))
        | inr past ↦ go (get_or failed.hits i false) (failed.after i past)
      ]
    ]
      where
        go : (b : Bool) → get_or new i marks.Waiting ≡ failed_mark b (get_or old i marks.Waiting) → (get_or new i marks.Waiting ≡ get_or old i marks.Waiting) ⊎ IsIdle (get_or new i marks.Waiting)
        go true e = inr (inl e)
        go false e = inl e

    not-idle : (m : SlotState) → IsIdle m → is_valid m ≡ true → ⊥
    not-idle m (inl waits) valid = true≢false (sym valid ∙ ap is_valid waits)
    not-idle m (inr closed) valid = true≢false (sym valid ∙ ap is_valid closed)

    back-valid : (i : ℕ) → is_valid (get_or new i marks.Waiting) ≡ true → get_or new i marks.Waiting ≡ get_or old i marks.Waiting
    back-valid i valid = elim (where-is i) [
      | inl same ↦ same
      | inr idle ↦ absurd (not-idle (get_or new i marks.Waiting) idle valid)
    ]

    stays-idle : (i : ℕ) → IsIdle (get_or old i marks.Waiting) → IsIdle (get_or new i marks.Waiting)
    stays-idle i idle = elim (where-is i) [
      | inl same ↦ subst IsIdle (sym same) idle
      | inr now ↦ now
    ]
