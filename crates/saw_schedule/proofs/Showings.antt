-- What is shown at an address: of the changes that stand in held results the last.
use Rattle.std.proofs.Common.{◌≡◌, ◌<◌, ◌≤◌, ◌+◌, ℕ, zero, suc, Bool, true, false, List, [], ◌∷◌, ◌++◌, length, drop, get_or, Option, Some, None, refl, sym, ap, subst, ◌∙◌, arith, if◌then◌else◌, ◌⊎◌, inl, inr, bytes_eq, slice_get, true≢false}
use Rattle.std.specs.Option.{option_or}
use Rattle.saw_messages.specs.declared.outcome.Change.{Change}
use Rattle.std.proofs.lemmas.Bool.{and_parts, eq-eqb, eqb-true}
use Rattle.std.proofs.lemmas.Option.{slice_get_cases}
use Rattle.saw_context.specs.declared.job.Done.{Done}
use Rattle.saw_context.specs.declared.view.ViewEntry.{ViewEntry}
use Rattle.saw_machine.specs.Laws.{last_below}
use Rattle.saw_machine.specs.Machine.{Closed, Held, Running, Slot, State, Waiting, made, seen}
use Rattle.saw_machine.specs.Orders.{Order, change_at, made_by}
use Rattle.saw_messages.specs.declared.outcome.Outcome.{Outcome}
use Rattle.saw_messages.specs.declared.outcome.Outcome.TheVariants.{Ok, Invalid}
use Rattle.saw_ready.specs.Marks.{is_valid}
use Rattle.saw_ready.specs.declared.slot_state.SlotState.TheVariants as marks
use Rattle.saw_schedule.specs.Shows.{mark_of}
use Rattle.saw_schedule.specs.Inside.{AreSlotsOf, DoPlacesRise, IsResultAt}
use Rattle.saw_schedule.specs.Lasts.{changes_at, changes_by, changes_in, lefts_in, lefts_of}
use Rattle.saw_schedule.specs.Shown.{done_at, done_by, entry_at, entry_by, entry_of, is_held_at, is_held_by, is_place_of, last_held, shown_at, shown_by}
use Rattle.saw_schedule.specs.declared.kept.Kept.{Kept}
use Rattle.saw_schedule.specs.declared.lasts.Left.{Left}
use Rattle.saw_schedule.specs.declared.slots.Slots.{Slots}
use Rattle.saw_schedule.specs.declared.step.Step.{Step}
use Rattle.saw_schedule.specs.declared.step.Step.TheVariants.{Take, Finish, GiveBack}

-- where none behind passes and this one does, it is the last
pub last-at : (test : Left → Bool) (xs : List Left) (i : ℕ) (d : Left) → i < length xs → last_held test (drop (suc i) xs) ≡ None → test (get_or xs i d) ≡ true
    → last_held test xs ≡ Some (get_or xs i d)
last-at test [] i d inside none passes = absurd (omega arith)
last-at test (x ∷ xs) zero d inside none passes = rw (none, passes) refl
last-at test (x ∷ xs) (suc i) d inside none passes = rw (last-at test xs i d (omega arith) none passes) refl

-- ---- the last of a row of options

lt-or-is : (a b : ℕ) → a < suc b → (a < b) ⊎ (a ≡ b)
lt-or-is a b l = grind arith

module _ {A : Type 0} where
  abbrev pub last_over : ℕ → (ℕ → Option A) → Option A
  last_over zero f = None
  last_over (suc n) f = option_or (f n) (last_over n f)

  -- the same of those from a place on, so many
  abbrev pub last_from : ℕ → ℕ → (ℕ → Option A) → Option A
  last_from place zero f = None
  last_from place (suc n) f = option_or (last_from (suc place) n f) (f place)

  -- x stands at a place behind which there is none
  pub record LastAt (n : ℕ) (f : ℕ → Option A) (x : A) : Type 0 where
    pub place : ℕ
    pub inside : place < n
    pub here : f place ≡ Some x
    pub after : (q : ℕ) → place < q → q < n → f q ≡ None

  or-assoc : (a b c : Option A) → option_or (option_or a b) c ≡ option_or a (option_or b c)
  or-assoc None b c = refl
  or-assoc (Some x) b c = refl

  pub or-none : (a : Option A) → option_or a None ≡ a
  or-none None = refl
  or-none (Some x) = refl

  last-from : (n place total : ℕ) (f : ℕ → Option A) → total ≡ place + n → last_over total f ≡ option_or (last_from place n f) (last_over place f)
  last-from zero place total f e = let same : total ≡ place = omega arith in ap (λ count. last_over count f) same
  last-from (suc n) place total f e =
      last-from n (suc place) total f (omega arith) ∙ sym (or-assoc (last_from (suc place) n f) (f place) (last_over place f))

  pub last-none : (n : ℕ) (f : ℕ → Option A) → last_over n f ≡ None → (p : ℕ) → p < n → f p ≡ None
  last-none zero f e p lt = absurd (omega arith)
  last-none (suc n) f e p lt = go (f n) refl e (lt-or-is p n lt) (λ none less. last-none n f none p less)
    where
      go : (here : Option A) → f n ≡ here → option_or here (last_over n f) ≡ None → (p < n) ⊎ (p ≡ n) → (last_over n f ≡ None → p < n → f p ≡ None) → f p ≡ None
      go None is none (inl less) more = more none less
      go None is none (inr same) more = ap f same ∙ is
      go (Some x) is none other more = absurd (grind arith)

  pub last-some : (n : ℕ) (f : ℕ → Option A) (x : A) → last_over n f ≡ Some x → LastAt n f x
  last-some zero f x e = absurd (grind arith)
  last-some (suc n) f x e = go (f n) refl e (λ found. last-some n f x found)
    where
      go : (here : Option A) → f n ≡ here → option_or here (last_over n f) ≡ Some x → (last_over n f ≡ Some x → LastAt n f x) → LastAt (suc n) f x
      go None is found more =
          let at : LastAt n f x = more found in
          record {
            place = at.place;
            inside = let l : at.place < n = at.inside in omega (arith, l);
            here = at.here;
            after = λ q low high. elim (lt-or-is q n high) [
              | inl less ↦ at.after q low less
              | inr same ↦ ap f same ∙ is
            ];
          }
      go (Some y) is found more = record { place = n; inside = omega arith; here = is ∙ found; after = λ q low high. absurd (omega (arith, low, high)) }

  pub last-is : (n : ℕ) (f : ℕ → Option A) (x : A) → LastAt n f x → last_over n f ≡ Some x
  last-is zero f x at = absurd (let l : at.place < 0 = at.inside in omega (arith, l))
  last-is (suc n) f x at = go (lt-or-is at.place n at.inside) (λ inner. last-is n f x inner)
    where
      go : (at.place < n) ⊎ (at.place ≡ n) → (LastAt n f x → last_over n f ≡ Some x) → option_or (f n) (last_over n f) ≡ Some x
      go (inl less) more =
          rw (at.after n less (omega arith))
          (more (record { place = at.place; inside = less; here = at.here; after = λ q low high. at.after q low (omega (arith, high)) }))
      go (inr same) more = rw (ap f (sym same) ∙ at.here) refl

  pub none-last : (n : ℕ) (f : ℕ → Option A) → ((p : ℕ) → p < n → f p ≡ None) → last_over n f ≡ None
  none-last zero f none = refl
  none-last (suc n) f none = rw (none n (omega arith)) (none-last n f (λ p lt. none p (omega (arith, lt))))

-- ---- place by place

held-append : (test : Left → Bool) (xs ys : List Left) → last_held test (xs ++ ys) ≡ option_or (last_held test ys) (last_held test xs)
held-append test [] ys = sym (or-none (last_held test ys))
held-append test (x ∷ xs) ys =
    rw (held-append test xs ys) (or-assoc (last_held test ys) (last_held test xs) (if test x then Some x else None))

-- the last change at a place of the steps
abbrev pub last_in : (Left → Bool) → List Step → List ℕ → ℕ → Option Left
last_in test steps at place = last_held test (lefts_in place 0 (changes_at steps place) at)

lefts-from : (test : Left → Bool) (steps : List Step) (at : List ℕ) (place : ℕ) (rest : List Step) → ((k : ℕ) → slice_get rest k ≡ slice_get steps (place + k))
    → last_held test (lefts_of place rest at) ≡ last_from place (length rest) (last_in test steps at)
lefts-from test steps at place [] same = refl
lefts-from test steps at place (step ∷ rest) same =
    let stands : slice_get steps place ≡ Some step = (let e : place ≡ place + 0 = omega arith in ap (λ n. slice_get steps n) e ∙ sym (same 0)) in
    held-append test (lefts_in place 0 (changes_in step) at) (lefts_of (suc place) rest at)
    ∙ rw (stands, lefts-from test steps at (suc place) rest (λ k. same (suc k) ∙ (let e : place + suc k ≡ suc place + k = omega arith in ap (λ n. slice_get steps n) e))) refl

-- all of them
pub lefts-are : (test : Left → Bool) (steps : List Step) (at : List ℕ) → last_held test (lefts_of 0 steps at) ≡ last_over (length steps) (last_in test steps at)
lefts-are test steps at =
    lefts-from test steps at 0 steps (λ k. let e : k ≡ 0 + k = omega arith in ap (λ n. slice_get steps n) e)
    ∙ sym (last-from (length steps) 0 (length steps) (last_in test steps at) (omega arith) ∙ or-none (last_from 0 (length steps) (last_in test steps at)))

-- what is found in the changes of one result is the last of the address
abbrev IsLastOf : List Change → ℕ → Option (Option (List ℕ)) → Option Left → Type 0
IsLastOf all place None found = found ≡ None
IsLastOf all place (Some value) found = (c : ℕ) × (change : Change) × (found ≡ Some (record { place = place; change = c })) × (slice_get all c ≡ Some change) × (change.value ≡ value)

module _ (test : Left → Bool) (all : List Change) (place : ℕ) (at : List ℕ) where
  one-more-change : ((c : ℕ) → test (record { place = place; change = c }) ≡ true) → (n : ℕ) (change : Change) → slice_get all n ≡ Some change
      → (b : Bool) (value : Option (Option (List ℕ))) (found : Option Left) → IsLastOf all place value found
      → IsLastOf all place (option_or value (if b then Some change.value else None)) (option_or found (last_held test (if b then record { place = place; change = n } ∷ [] else [])))
  one-more-change passes n change there b (Some value) found is = (is.0, is.1, rw is.2 refl, is.3, is.4)
  one-more-change passes n change there true None found is = (n, change, rw (is, passes n) refl, there, refl)
  one-more-change passes n change there false None found is = rw is refl

  in-one : ((c : ℕ) → test (record { place = place; change = c }) ≡ true) → (n : ℕ) (changes : List Change) → ((k : ℕ) → slice_get changes k ≡ slice_get all (n + k))
      → IsLastOf all place (change_at changes at) (last_held test (lefts_in place n changes at))
  in-one passes n [] same = refl
  in-one passes n (change ∷ changes) same =
      let there : slice_get all n ≡ Some change = (let e : n ≡ n + 0 = omega arith in ap (λ m. slice_get all m) e ∙ sym (same 0)) in
      rw (held-append test (if bytes_eq change.address at then record { place = place; change = n } ∷ [] else []) (lefts_in place (suc n) changes at))
      (one-more-change passes n change there (bytes_eq change.address at) (change_at changes at) (last_held test (lefts_in place (suc n) changes at))
      (in-one passes (suc n) changes (λ k. same (suc k) ∙ (let e : n + suc k ≡ suc n + k = omega arith in ap (λ m. slice_get all m) e))))

  none-in-one : ((c : ℕ) → test (record { place = place; change = c }) ≡ false) → (n : ℕ) (changes : List Change) → last_held test (lefts_in place n changes at) ≡ None
  none-in-one fails n [] = refl
  none-in-one fails n (change ∷ changes) =
      rw (held-append test (if bytes_eq change.address at then record { place = place; change = n } ∷ [] else []) (lefts_in place (suc n) changes at), none-in-one fails (suc n) changes)
      (go (bytes_eq change.address at))
    where
      go : (b : Bool) → last_held test (if b then record { place = place; change = n } ∷ [] else []) ≡ None
      go true = rw (fails n) refl
      go false = refl

-- ---- a slot and the place of its result

-- transaction i has made this change, and its result stands at a place
record Maker (st : State) (steps : List Step) (slots : Slots) (at : List ℕ) (i place : ℕ) (value : Option (List ℕ)) : Type 0 where
  kept : Kept
  stands : slice_get slots.kept.items i ≡ Some kept
  place_is : kept.place ≡ place
  done : Done
  there : done_at steps place ≡ Some done
  number : done.ticket.index ≡ i
  held : is_held_by slots place (Some done) ≡ true
  change : change_at (changes_by done.outcome) at ≡ Some value
  made_is : made (st.slots i) at ≡ Some value

module _ (order : Order) (sizes : List ℕ) (st : State) (steps : List Step) (slots : Slots) (at : List ℕ) (are : AreSlotsOf order sizes st steps slots) where
  abbrev count : ℕ
  count = length slots.queue.marks

  kept-at : (i : ℕ) → i < count → (kept : Kept) × (slice_get slots.kept.items i ≡ Some kept)
  kept-at i lt = elim (slice_get_cases slots.kept.items i).1 [
    | inl found ↦ (found.0, found.2)
    | inr past ↦ absurd (let l : length slots.kept.items ≤ i = past.0 in let long : length slots.kept.items ≡ length slots.queue.marks = are.kept_long in omega (arith, l, long, lt))
  ]

  inside : (i : ℕ) (kept : Kept) → slice_get slots.kept.items i ≡ Some kept → i < count
  inside i kept stands = elim (slice_get_cases slots.kept.items i).1 [
    | inl found ↦ (let l : i < length slots.kept.items = found.1 in let long : length slots.kept.items ≡ length slots.queue.marks = are.kept_long in omega (arith, l, long))
    | inr past ↦ absurd (some≢none kept (sym stands ∙ past.1))
  ]
    where
      some≢none : (one : Kept) → Some one ≡ None → ⊥
      some≢none one e = grind arith

  -- a held result at its place
  result-made : (i : ℕ) (value : Option (List ℕ)) (kept : Kept) (outcome : Outcome) → slice_get slots.kept.items i ≡ Some kept → is_valid (get_or slots.queue.marks i marks.Waiting) ≡ true
      → made_by outcome at ≡ Some value → made (st.slots i) at ≡ Some value → IsResultAt steps kept.place i outcome → Maker st steps slots at i kept.place value
  result-made i value kept outcome stands valid change is result = record {
    kept = kept;
    stands = stands;
    place_is = refl;
    done = result.done;
    there = rw result.stands refl;
    number = result.number;
    held = rw (result.number, stands, valid, eq-eqb kept.place kept.place refl) refl;
    change = rw result.outcome_is (by-changes outcome change);
    made_is = is;
  }
    where
      by-changes : (outcome : Outcome) → made_by outcome at ≡ Some value → change_at (changes_by outcome) at ≡ Some value
      by-changes (Ok changes events) e = e
      by-changes (Invalid reason) e = absurd (grind arith)

  -- what has made a change has its result
  maker-of : (i : ℕ) (value : Option (List ℕ)) → i < count → made (st.slots i) at ≡ Some value → (place : ℕ) × Maker st steps slots at i place value
  maker-of i value lt is = go (st.slots i) refl is
    where
      go : (slot : Slot) → st.slots i ≡ slot → made slot at ≡ Some value → (place : ℕ) × Maker st steps slots at i place value
      go Waiting e is_made = absurd (grind arith)
      go (Running n task) e is_made = absurd (grind arith)
      go (Held task (Ok changes events)) e is_made =
          let one = kept-at i lt in
          let valid : is_valid (get_or slots.queue.marks i marks.Waiting) ≡ true = ap is_valid (are.shows.marks i lt) ∙ ap (λ (slot : Slot). is_valid (mark_of slot)) e in
          (one.0.place, result-made i value one.0 (Ok changes events) one.1 valid is_made is ((are.kept i one.0 one.1).held task (Ok changes events) e))
      go (Held task (Invalid reason)) e is_made = absurd (grind arith)
      go Closed e is_made = absurd (grind arith)

  -- the result that a slot keeps, and the one that stands at its place
  one-result : (place i : ℕ) (kept : Kept) (done : Done) (outcome : Outcome) → kept.place ≡ place → done_at steps place ≡ Some done → IsResultAt steps kept.place i outcome → done.outcome ≡ outcome
  one-result place i kept done outcome e there result =
      let other : done_at steps place ≡ Some result.done = rw (← e, result.stands) refl in
      let same : Some done ≡ Some result.done = sym there ∙ other in
      let done_is : done ≡ result.done = some-same done result.done same in
      ap (λ (d : Done). d.outcome) done_is ∙ result.outcome_is
    where
      some-same : (a b : Done) → Some a ≡ Some b → a ≡ b
      some-same a b e = cc

  -- and a result that is held is of what has made its changes
  maker-at : (place : ℕ) (done : Done) (value : Option (List ℕ)) → done_at steps place ≡ Some done → is_held_by slots place (Some done) ≡ true
      → change_at (changes_by done.outcome) at ≡ Some value → Maker st steps slots at done.ticket.index place value
  maker-at place done value there held change =
      let parts = and_parts (is_place_of place (slice_get slots.kept.items done.ticket.index)) (is_valid (get_or slots.queue.marks done.ticket.index marks.Waiting)) held in
      go (slice_get slots.kept.items done.ticket.index) refl parts.0 parts.1
    where
      with-slot : (kept : Kept) → slice_get slots.kept.items done.ticket.index ≡ Some kept → kept.place ≡ place → is_valid (get_or slots.queue.marks done.ticket.index marks.Waiting) ≡ true
          → (slot : Slot) → st.slots done.ticket.index ≡ slot → is_valid (mark_of slot) ≡ true → made (st.slots done.ticket.index) at ≡ Some value
      with-slot kept stands e valid Waiting is v = absurd (true≢false (sym v))
      with-slot kept stands e valid (Running n task) is v = absurd (true≢false (sym v))
      with-slot kept stands e valid (Held task (Ok changes events)) is v =
          let outcome : done.outcome ≡ Ok changes events = one-result place done.ticket.index kept done (Ok changes events) e there ((are.kept done.ticket.index kept stands).held task (Ok changes events) is) in
          ap (λ (slot : Slot). made slot at) is ∙ (ap (λ (o : Outcome). change_at (changes_by o) at) (sym outcome) ∙ change)
      with-slot kept stands e valid (Held task (Invalid reason)) is v = absurd (true≢false (sym v))
      with-slot kept stands e valid Closed is v = absurd (true≢false (sym v))

      go : (one : Option Kept) → slice_get slots.kept.items done.ticket.index ≡ one → is_place_of place one ≡ true → is_valid (get_or slots.queue.marks done.ticket.index marks.Waiting) ≡ true
          → Maker st steps slots at done.ticket.index place value
      go None stands e valid = absurd (true≢false (sym e))
      go (Some kept) stands e valid =
          let place_is : kept.place ≡ place = eqb-true kept.place place e in
          let lt : done.ticket.index < count = inside done.ticket.index kept stands in
          record {
            kept = kept;
            stands = stands;
            place_is = place_is;
            done = done;
            there = there;
            number = refl;
            held = held;
            change = change;
            made_is = with-slot kept stands place_is valid (st.slots done.ticket.index) refl (sym (ap is_valid (are.shows.marks done.ticket.index lt)) ∙ valid);
          }

  -- ---- what stands at a place of the steps

  abbrev found_at : ℕ → Option Left
  found_at place = last_in (is_held_at steps slots) steps at place

  abbrev entry : ℕ → Option (List ℕ) → ViewEntry
  entry i value = record { index = i; value = value }

  changes-done : (place : ℕ) (done : Done) → done_at steps place ≡ Some done → changes_at steps place ≡ changes_by done.outcome
  changes-done place done there = go (slice_get steps place) refl there
    where
      go : (step : Option Step) → slice_get steps place ≡ step → done_by step ≡ Some done → changes_at steps place ≡ changes_by done.outcome
      go None is e = absurd (grind arith)
      go (Some (Take ticket)) is e = absurd (grind arith)
      go (Some (Finish other)) is e = let same : other ≡ done = some-same other done e in rw is (ap (λ (d : Done). changes_by d.outcome) same)
        where
          some-same : (a b : Done) → Some a ≡ Some b → a ≡ b
          some-same a b e = cc
      go (Some (GiveBack ticket)) is e = absurd (grind arith)

  place-inside : (place : ℕ) (done : Done) → done_at steps place ≡ Some done → place < length steps
  place-inside place done there = elim (slice_get_cases steps place).1 [
    | inl found ↦ found.1
    | inr past ↦ absurd (none≢some (sym (ap done_by past.1) ∙ there))
  ]
    where
      none≢some : None ≡ Some done → ⊥
      none≢some e = grind arith

  at-place : (place : ℕ) (done : Done) → done_at steps place ≡ Some done → is_held_by slots place (Some done) ≡ true
      → IsLastOf (changes_by done.outcome) place (change_at (changes_by done.outcome) at) (found_at place)
  at-place place done there held =
      rw (changes-done place done there)
      (in-one (is_held_at steps slots) (changes_by done.outcome) place at (λ c. ap (λ (one : Option Done). is_held_by slots place one) there ∙ held) 0 (changes_by done.outcome)
      (λ k. let e : k ≡ 0 + k = omega arith in ap (λ n. slice_get (changes_by done.outcome) n) e))

  entry-is : (place c i : ℕ) (done : Done) (change : Change) (value : Option (List ℕ)) → done_at steps place ≡ Some done → slice_get (changes_by done.outcome) c ≡ Some change
      → done.ticket.index ≡ i → change.value ≡ value → entry_at steps (record { place = place; change = c }) ≡ Some (entry i value)
  entry-is place c i done change value there get number is =
      ap (λ (one : Option Done). entry_by c one) there ∙ (ap (λ (one : Option Change). entry_of done one) get ∙ rw (number, is) refl)

  -- a maker's change is found at its place
  maker-found : (i place : ℕ) (value : Option (List ℕ)) → Maker st steps slots at i place value → (left : Left) × (found_at place ≡ Some left) × (entry_at steps left ≡ Some (entry i value))
  maker-found i place value maker =
      let last = subst (λ (v : Option (Option (List ℕ))). IsLastOf (changes_by maker.done.outcome) place v (found_at place)) maker.change (at-place place maker.done maker.there maker.held) in
      (record { place = place; change = last.0 }, last.2, entry-is place last.0 i maker.done last.1 value maker.there last.3 maker.number last.4)

  none-held : (place : ℕ) → is_held_by slots place (done_at steps place) ≡ false → found_at place ≡ None
  none-held place e = none-in-one (is_held_at steps slots) (changes_at steps place) place at (λ c. e) 0 (changes_at steps place)

  -- and what is found is a maker's change
  found-maker : (place : ℕ) (left : Left) → found_at place ≡ Some left → (i : ℕ) × (value : Option (List ℕ)) × Maker st steps slots at i place value × (entry_at steps left ≡ Some (entry i value))
  found-maker place left found = by-done (done_at steps place) refl
    where
      none≢some : found_at place ≡ None → ⊥
      none≢some none = let e : Some left ≡ None = sym found ∙ none in grind arith

      some-same : (a b : Left) → Some a ≡ Some b → a ≡ b
      some-same a b e = cc

      by-change : (done : Done) → done_at steps place ≡ Some done → is_held_by slots place (Some done) ≡ true → (v : Option (Option (List ℕ))) → change_at (changes_by done.outcome) at ≡ v
          → IsLastOf (changes_by done.outcome) place v (found_at place) → (i : ℕ) × (value : Option (List ℕ)) × Maker st steps slots at i place value × (entry_at steps left ≡ Some (entry i value))
      by-change done there held None e last = absurd (none≢some last)
      by-change done there held (Some value) e last =
          let same : left ≡ record { place = place; change = last.0 } = some-same left (record { place = place; change = last.0 }) (sym found ∙ last.2) in
          (done.ticket.index, value, maker-at place done value there held e, ap (λ (one : Left). entry_at steps one) same ∙ entry-is place last.0 done.ticket.index done last.1 value there last.3 refl last.4)

      by-held : (done : Done) → done_at steps place ≡ Some done → (h : Bool) → is_held_by slots place (Some done) ≡ h
          → (i : ℕ) × (value : Option (List ℕ)) × Maker st steps slots at i place value × (entry_at steps left ≡ Some (entry i value))
      by-held done there false e = absurd (none≢some (none-held place (ap (λ (one : Option Done). is_held_by slots place one) there ∙ e)))
      by-held done there true e = by-change done there e (change_at (changes_by done.outcome) at) refl (at-place place done there e)

      by-done : (one : Option Done) → done_at steps place ≡ one → (i : ℕ) × (value : Option (List ℕ)) × Maker st steps slots at i place value × (entry_at steps left ≡ Some (entry i value))
      by-done None e = absurd (none≢some (none-held place (ap (λ (one : Option Done). is_held_by slots place one) e)))
      by-done (Some done) e = by-held done e (is_held_by slots place (Some done)) refl

  -- ---- the machine's view

  -- what a number shows, by itself
  abbrev own : ℕ → Option ViewEntry
  own i = seen i (made (st.slots i) at) None

  below-is : (n : ℕ) → last_below st.slots n at ≡ last_over n own
  below-is zero = refl
  below-is (suc n) = rw (below-is n) (go (made (st.slots n) at))
    where
      go : (change : Option (Option (List ℕ))) → seen n change (last_over n own) ≡ option_or (seen n change None) (last_over n own)
      go None = refl
      go (Some value) = refl

  none-own : (i : ℕ) → made (st.slots i) at ≡ None → own i ≡ None
  none-own i e = rw e refl

  some≢none : (one : Left) → Some one ≡ None → ⊥
  some≢none one e = grind arith

  module _ (rising : DoPlacesRise st slots.kept.items) where
    -- what stands last is of the greatest number
    greatest : (left : Left) (last : LastAt (length steps) found_at left) (i : ℕ) (value : Option (List ℕ)) → Maker st steps slots at i last.place value → LastAt count own (entry i value)
    greatest left last i value maker = record {
      place = i;
      inside = inside i maker.kept maker.stands;
      here = rw maker.made_is refl;
      after = λ q low high. go q low high (made (st.slots q) at) refl;
    }
      where
        go : (q : ℕ) → i < q → q < count → (change : Option (Option (List ℕ))) → made (st.slots q) at ≡ change → own q ≡ None
        go q low high None e = none-own q e
        go q low high (Some other) e =
            let found = maker-of q other high e in
            let theirs = found.1 in
            let less : maker.kept.place < theirs.kept.place = rising i q maker.kept theirs.kept at value other low maker.made_is theirs.made_is maker.stands theirs.stands in
            let mine : maker.kept.place ≡ last.place = maker.place_is in
            let other_place : theirs.kept.place ≡ found.0 = theirs.place_is in
            let within : found.0 < length steps = place-inside found.0 theirs.done theirs.there in
            let there = maker-found q found.0 other theirs in
            absurd (some≢none there.0 (sym there.1 ∙ last.after found.0 (omega (arith, less, mine, other_place)) within))

    shown-over : (found : Option Left) → last_over (length steps) found_at ≡ found → shown_by steps found ≡ last_over count own
    shown-over None e = sym (none-last count own (λ i lt. go i lt (made (st.slots i) at) refl))
      where
        go : (i : ℕ) → i < count → (change : Option (Option (List ℕ))) → made (st.slots i) at ≡ change → own i ≡ None
        go i lt None is = none-own i is
        go i lt (Some value) is =
            let found = maker-of i value lt is in
            let there = maker-found i found.0 value found.1 in
            absurd (some≢none there.0 (sym there.1 ∙ last-none (length steps) found_at e found.0 (place-inside found.0 found.1.done found.1.there)))
    shown-over (Some left) e =
        let last : LastAt (length steps) found_at left = last-some (length steps) found_at left e in
        let maker = found-maker last.place left last.here in
        maker.3 ∙ sym (last-is count own (entry maker.0 maker.1) (greatest left last maker.0 maker.1 maker.2))

    shown-last : (lefts : List Left) → lefts ≡ lefts_of 0 steps at → shown_by steps (last_held (is_held_at steps slots) lefts) ≡ last_below st.slots count at
    shown-last lefts are_lefts =
        ap (shown_by steps) (ap (last_held (is_held_at steps slots)) are_lefts ∙ lefts-are (is_held_at steps slots) steps at)
        ∙ (shown-over (last_over (length steps) found_at) refl ∙ sym (below-is count))

-- what is shown is the last change of those that the slots have made
pub shown-is-last : (order : Order) (sizes : List ℕ) (st : State) (steps : List Step) (slots : Slots) → AreSlotsOf order sizes st steps slots → DoPlacesRise st slots.kept.items
    → (at : List ℕ) → shown_at steps slots at ≡ last_below st.slots (length slots.queue.marks) at
shown-is-last order sizes st steps slots are rising at = shown-last order sizes st steps slots at are rising (lefts_of 0 steps at) refl
