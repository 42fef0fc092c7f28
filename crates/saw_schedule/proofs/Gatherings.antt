-- Outcomes that are moved out of a list, and the results of batches made of them.
use Rattle.std.proofs.Common.{◌≡◌, ◌≢◌, ◌<◌, ◌≤◌, ◌+◌, ◌-◌, ℕ, zero, suc, List, [], ◌∷◌, ◌++◌, length, take, drop, map, Option, Some, None, slice_get, slice_set, refl, sym, ap, subst, ◌∙◌, arith, ◌⊎◌, inl, inr, length-set, get_or, sum}
use Rattle.std.proofs.lemmas.List.{append-nil, append_assoc, drop-drop, drop_all, drop_more, get_or-drop, length-map, take_more}
use Rattle.std.proofs.lemmas.Option.{get_or_from_slice_get, slice_get-map, slice_get_cases, slice_get_within}
use Rattle.saw_messages.specs.declared.outcome.Outcome.{Outcome}
use Rattle.saw_messages.specs.declared.outcome.Reason.{Reason}
use Rattle.saw_context.specs.declared.batch_result.BatchResult.{BatchResult}
use Rattle.saw_context.specs.declared.batch_result.BatchResult.TheVariants as results
use Rattle.saw_context.specs.declared.job.Done.{Done}
use Rattle.saw_machine.specs.Machine.{Held, State, Task}
use Rattle.saw_machine.specs.Orders.{Order}
use Rattle.saw_schedule.specs.Inside.{AreOutcomesAt, AreSlotsOf, AreVerdictsOf, HoldOutcomes, IsResultAt, IsVerdictOf, outcome_in}
use Rattle.saw_schedule.specs.Layout.{ends_of}
use Rattle.saw_schedule.specs.Places.{ArePlacesApart, ArePlacesBelow, IsNoPlace, place_by, place_in}
use Rattle.saw_schedule.specs.declared.kept.Kept.{Kept}
use Rattle.saw_schedule.specs.declared.slots.Slots.{Slots}
use Rattle.saw_schedule.specs.declared.step.Step.{Step}
use Rattle.saw_schedule.specs.declared.step.Step.TheVariants.{Finish}
use Rattle.saw_schedule.specs.declared.verdict.Verdict.{Verdict}
use Rattle.saw_schedule.specs.declared.verdict.Verdict.TheVariants.{Applied, Failed}
use Rattle.saw_schedule.proofs.Verdicts.{left-of, length-ends}

slice_get-set_other : {X : Type 0} (xs : List X) (i j : ℕ) (v : X) → j ≢ i → slice_get (slice_set xs i v) j ≡ slice_get xs j
slice_get-set_other [] i j v apart = refl
slice_get-set_other (x ∷ xs) zero zero v apart = absurd (apart refl)
slice_get-set_other (x ∷ xs) zero (suc j) v apart = refl
slice_get-set_other (x ∷ xs) (suc i) zero v apart = refl
slice_get-set_other (x ∷ xs) (suc i) (suc j) v apart = slice_get-set_other xs i j v (λ e. apart (ap suc e))

-- ---- moving

-- the outcomes of the transactions from one number on and below `i` were moved, of those below `to`
pub record AreMoved (kept : List Kept) (old new : List (Option Outcome)) (from i to : ℕ) (taken : List Outcome) : Type 0 where
  pub within : from < i → i ≤ to
  pub long : length new ≡ length old
  pub others : (place : ℕ) → IsNoPlace kept from i place → slice_get new place ≡ slice_get old place
  pub moved : (found : List Outcome) → ArePlacesApart kept from to → from + length found ≡ to → AreOutcomesAt kept old from found → taken ≡ take (i - from) found

-- the outcome of one of them
record IsOutcomeAt (kept : List Kept) (all : List (Option Outcome)) (i : ℕ) (found : List Outcome) (k : ℕ) : Type 0 where
  outcome : Outcome
  is : slice_get found k ≡ Some outcome
  there : slice_get all (place_in kept i) ≡ Some (Some outcome)

outcome-at : (kept : List Kept) (all : List (Option Outcome)) (n : ℕ) (found : List Outcome) (k i : ℕ) → AreOutcomesAt kept all n found → k < length found → i ≡ n + k → IsOutcomeAt kept all i found k
outcome-at kept all n [] k i are lt e = absurd (omega arith)
outcome-at kept all n (outcome ∷ found) zero i are lt e =
    let same : i ≡ n = omega arith in
    record { outcome = outcome; is = refl; there = rw (same, are.0.1) are.0.2 }
outcome-at kept all n (outcome ∷ found) (suc k) i are lt e =
    let more : IsOutcomeAt kept all i found k = outcome-at kept all (suc n) found k i are.1 (omega arith) (omega arith) in
    record { outcome = more.outcome; is = more.is; there = more.there }

module _ (kept : List Kept) (old new : List (Option Outcome)) (from i to : ℕ) (taken : List Outcome) (low : from ≤ i) (high : i < to) (are : AreMoved kept old new from i to taken)
    (place : ℕ) (place_is : place_in kept i ≡ place) (took : Option Outcome) (there : slice_get new place ≡ Some took) where
  -- the outcome that stands at the place is still the one that is to be found
  found-here : (found : List Outcome) → ArePlacesApart kept from to → from + length found ≡ to → AreOutcomesAt kept old from found
      → (outcome : Outcome) × (slice_get found (i - from) ≡ Some outcome) × (took ≡ Some outcome)
  found-here found apart counted all =
      let one : IsOutcomeAt kept old i found (i - from) = outcome-at kept old from found (i - from) i all (omega (arith, low, high, counted)) (omega (arith, low)) in
      let same : slice_get new place ≡ slice_get old place = are.others place (λ j l h e. apart j i l h high (e ∙ sym place_is)) in
      let at : slice_get old place ≡ Some (Some one.outcome) = rw (← place_is) one.there in
      let both : Some took ≡ Some (Some one.outcome) = sym there ∙ (same ∙ at) in
      (one.outcome, one.is, cc)

  moved-on : (more : List Outcome) → ((found : List Outcome) → ArePlacesApart kept from to → from + length found ≡ to → AreOutcomesAt kept old from found → more ≡ take (i + 1 - from) found)
      → (left : List (Option Outcome)) → left ≡ slice_set new place None → AreMoved kept old left from (i + 1) to more
  moved-on more moved left is = record {
    within = λ lt. omega (arith, high);
    long = rw is (length-set new place None) ∙ are.long;
    others = λ other none.
        rw is
        (slice_get-set_other new place other None (λ e. none i low (omega arith) (place_is ∙ sym e))
        ∙ are.others other (λ j l h. none j l (omega (arith, h))));
    moved = moved;
  }

  -- one more was moved
  pub one-moved : (outcome : Outcome) → took ≡ Some outcome → (left : List (Option Outcome)) → left ≡ slice_set new place None → AreMoved kept old left from (i + 1) to (taken ++ outcome ∷ [])
  one-moved outcome is left left_is = moved-on (taken ++ outcome ∷ []) taken-more left left_is
    where
      taken-more : (found : List Outcome) → ArePlacesApart kept from to → from + length found ≡ to → AreOutcomesAt kept old from found → taken ++ outcome ∷ [] ≡ take (i + 1 - from) found
      taken-more found apart counted all =
          let here = found-here found apart counted all in
          let some : Some outcome ≡ Some here.0 = sym is ∙ here.2 in
          let same : outcome ≡ here.0 = cc in
          let next : i + 1 - from ≡ (i - from) + 1 = omega (arith, low) in
          rw (next, take_more found (i - from) outcome (omega (arith, low, high, counted)), get_or_from_slice_get found (i - from) here.0 outcome here.1, same)
          (ap (λ (xs : List Outcome). xs ++ here.0 ∷ []) (are.moved found apart counted all))

  -- where there is none, none was to be found
  pub none-moved : took ≡ None → (left : List (Option Outcome)) → left ≡ slice_set new place None → AreMoved kept old left from (i + 1) to taken
  none-moved is left left_is = moved-on taken (λ found apart counted all. absurd (none≢some (found-here found apart counted all).0 (sym is ∙ (found-here found apart counted all).2))) left left_is
    where
      none≢some : (one : Outcome) → None ≡ Some one → ⊥
      none≢some one e = grind arith

-- ---- what is left to gather

-- the batches so far, with the results that are left, are all; the outcomes of the numbers from `from` on stand at their places
pub record AreGathered (st : State) (steps : List Step) (slots : Slots) (all : List (Option Outcome)) (batches : List BatchResult) (from batch : ℕ) : Type 0 where
  pub sizes : List ℕ
  pub rest : List BatchResult
  pub left : AreVerdictsOf st from sizes rest (drop batch slots.verdicts.items)
  pub ends : drop batch slots.ends.items ≡ ends_of from sizes
  pub whole : batches ++ rest ≡ st.results
  pub long : length all ≡ length steps
  pub stand : (i : ℕ) (task : Task) (outcome : Outcome) (kept : Kept) → from ≤ i → st.slots i ≡ Held task outcome → slice_get slots.kept.items i ≡ Some kept
      → slice_get all kept.place ≡ Some (Some outcome)

record IsNext (st : State) (n : ℕ) (sizes : List ℕ) (rest : List BatchResult) (verdict : Verdict) (verdicts : List Verdict) : Type 0 where
  size : ℕ
  more_sizes : List ℕ
  result : BatchResult
  more : List BatchResult
  sizes_are : sizes ≡ size ∷ more_sizes
  rest_is : rest ≡ result ∷ more
  is : IsVerdictOf st n size result verdict
  left : AreVerdictsOf st (n + size) more_sizes more verdicts

next-of : (st : State) (n : ℕ) (sizes : List ℕ) (rest : List BatchResult) (verdict : Verdict) (verdicts : List Verdict) → AreVerdictsOf st n sizes rest (verdict ∷ verdicts)
    → IsNext st n sizes rest verdict verdicts
next-of st n sizes [] verdict verdicts are = absurd are
next-of st n [] (result ∷ more) verdict verdicts are = absurd are
next-of st n (size ∷ sizes) (result ∷ more) verdict verdicts are =
    record { size = size; more_sizes = sizes; result = result; more = more; sizes_are = refl; rest_is = refl; is = are.0; left = are.1 }

first-after : (st : State) (n : ℕ) (sizes : List ℕ) (rest : List BatchResult) (verdicts : List Verdict) → AreVerdictsOf st n sizes rest verdicts → n ≤ st.first
first-after st n sizes [] [] are = let e : n ≡ st.first = are.0 in omega (arith, e)
first-after st n sizes [] (verdict ∷ verdicts) are = absurd are
first-after st n sizes (result ∷ rest) [] are = absurd are
first-after st n [] (result ∷ rest) (verdict ∷ verdicts) are = absurd are
first-after st n (size ∷ sizes) (result ∷ rest) (verdict ∷ verdicts) are = let l : n + size ≤ st.first = first-after st (n + size) sizes rest verdicts are.1 in omega (arith, l)

-- behind the last there is none
none-left : (st : State) (n : ℕ) (sizes : List ℕ) (rest : List BatchResult) → AreVerdictsOf st n sizes rest [] → rest ≡ []
none-left st n sizes [] are = refl
none-left st n sizes (result ∷ rest) are = absurd are

record IsHeld (st : State) (i : ℕ) : Type 0 where
  task : Task
  outcome : Outcome
  is : st.slots i ≡ Held task outcome

held-at : (st : State) (n : ℕ) (outcomes : List Outcome) (i : ℕ) → HoldOutcomes st n outcomes → n ≤ i → i < n + length outcomes → IsHeld st i
held-at st n [] i hold low high = absurd (omega (arith, low, high))
held-at st n (outcome ∷ outcomes) i hold low high = elim (is-or-after n i low) [
  | inl same ↦ record { task = hold.0.0; outcome = outcome; is = ap st.slots same ∙ hold.0.1 }
  | inr after ↦ held-at st (suc n) outcomes i hold.1 after (omega (arith, high))
]
  where
    is-or-after : (a b : ℕ) → a ≤ b → (b ≡ a) ⊎ (suc a ≤ b)
    is-or-after a b l = grind arith

module _ (order : Order) (sizes : List ℕ) (st : State) (steps : List Step) (slots : Slots) (are : AreSlotsOf order sizes st steps slots) where
  abbrev all_kept : List Kept
  all_kept = slots.kept.items

  -- the result that a held slot keeps
  result-of : (i : ℕ) (task : Task) (outcome : Outcome) (kept : Kept) → st.slots i ≡ Held task outcome → slice_get all_kept i ≡ Some kept → IsResultAt steps kept.place i outcome
  result-of i task outcome kept held stands = (are.kept i kept stands).held task outcome held

  -- two of them stand apart
  stand-apart : (i j : ℕ) (one other : Kept) → i ≢ j → IsHeld st i → IsHeld st j → slice_get all_kept i ≡ Some one → slice_get all_kept j ≡ Some other → one.place ≢ other.place
  stand-apart i j one other apart mine theirs at_i at_j same =
      let a : IsResultAt steps one.place i mine.outcome = result-of i mine.task mine.outcome one mine.is at_i in
      let b : IsResultAt steps other.place j theirs.outcome = result-of j theirs.task theirs.outcome other theirs.is at_j in
      let both : Some (Finish a.done) ≡ Some (Finish b.done) = sym a.stands ∙ (ap (λ (place : ℕ). slice_get steps place) same ∙ b.stands) in
      apart (sym a.number ∙ (ap (λ (done : Done). done.ticket.index) (one-done a.done b.done both) ∙ b.number))
    where
      one-done : (x y : Done) → Some (Finish x) ≡ Some (Finish y) → x ≡ y
      one-done x y e = cc

  kept-at : (i : ℕ) → i < length all_kept → (kept : Kept) × (slice_get all_kept i ≡ Some kept)
  kept-at i lt = elim (slice_get_cases all_kept i).1 [
    | inl found ↦ (found.0, found.2)
    | inr past ↦ absurd (let l : length all_kept ≤ i = past.0 in omega (arith, l, lt))
  ]

  -- nothing is gathered yet
  pub none-gathered : (all : List (Option Outcome)) → all ≡ map outcome_in steps → AreGathered st steps slots all [] 0 0
  none-gathered all is = record {
    sizes = sizes;
    rest = st.results;
    left = are.verdicts;
    ends = are.ends;
    whole = refl;
    long = rw is (length-map steps outcome_in);
    stand = λ i task outcome kept low held stands.
        let r : IsResultAt steps kept.place i outcome = result-of i task outcome kept held stands in
        rw (is, slice_get-map outcome_in steps kept.place, r.stands, r.outcome_is) refl;
  }

  pub end-inside : (batch : ℕ) → batch < length slots.verdicts.items → batch < length slots.ends.items
  end-inside batch lt =
      let counted : length slots.verdicts.items + length st.rest ≡ length sizes = left-of st 0 sizes st.results slots.verdicts.items are.verdicts in
      let long : length slots.ends.items ≡ length sizes = ap (λ (all : List ℕ). length all) are.ends ∙ length-ends 0 sizes in
      omega (arith, lt, counted, long)

  module _ (all : List (Option Outcome)) (batches : List BatchResult) (from batch to : ℕ) (gathered : AreGathered st steps slots all batches from batch)
      (verdict d : Verdict) (inside : batch < length slots.verdicts.items) (verdict_is : get_or slots.verdicts.items batch d ≡ verdict) (to_is : to ≡ get_or slots.ends.items batch 0) where
    next : IsNext st from gathered.sizes gathered.rest verdict (drop (batch + 1) slots.verdicts.items)
    next =
        next-of st from gathered.sizes gathered.rest verdict (drop (batch + 1) slots.verdicts.items)
        (subst (λ (verdicts : List Verdict). AreVerdictsOf st from gathered.sizes gathered.rest verdicts)
        (drop_more slots.verdicts.items batch d inside ∙ ap (λ (one : Verdict). one ∷ drop (batch + 1) slots.verdicts.items) verdict_is) gathered.left)

    ends-here : drop batch slots.ends.items ≡ (from + next.size) ∷ ends_of (from + next.size) next.more_sizes
    ends-here = gathered.ends ∙ ap (λ (all_sizes : List ℕ). ends_of from all_sizes) next.sizes_are

    to-here : to ≡ from + next.size
    to-here =
        let first : batch ≡ batch + 0 = omega arith in
        to_is ∙ (ap (λ (place : ℕ). get_or slots.ends.items place 0) first ∙ (sym (get_or-drop batch slots.ends.items 0 0) ∙ ap (λ (xs : List ℕ). get_or xs 0 0) ends-here))

    ends-left : drop (batch + 1) slots.ends.items ≡ ends_of to next.more_sizes
    ends-left = sym (drop-drop 1 batch slots.ends.items) ∙ (ap (λ (xs : List ℕ). drop 1 xs) ends-here ∙ ap (λ (n : ℕ). ends_of n next.more_sizes) (sym to-here))

    to-low : from ≤ to
    to-low = omega (arith, to-here)

    to-high : to ≤ length all_kept
    to-high =
        let behind : from + next.size ≤ st.first = first-after st (from + next.size) next.more_sizes next.more (drop (batch + 1) slots.verdicts.items) next.left in
        let counted : length slots.queue.marks ≡ st.first + sum st.rest = are.shows.count in
        let long : length slots.kept.items ≡ length slots.queue.marks = are.kept_long in
        omega (arith, to-here, behind, counted, long)

    go-on : (result : BatchResult) (new : List (Option Outcome)) → result ≡ next.result → length new ≡ length steps
        → ((i : ℕ) (task : Task) (outcome : Outcome) (kept : Kept) → to ≤ i → st.slots i ≡ Held task outcome → slice_get all_kept i ≡ Some kept → slice_get new kept.place ≡ Some (Some outcome))
        → AreGathered st steps slots new (batches ++ result ∷ []) to (batch + 1)
    go-on result new is long stand = record {
      sizes = next.more_sizes;
      rest = next.more;
      left = subst (λ (n : ℕ). AreVerdictsOf st n next.more_sizes next.more (drop (batch + 1) slots.verdicts.items)) (sym to-here) next.left;
      ends = ends-left;
      whole =
          append_assoc batches (result ∷ []) next.more
          ∙ (ap (λ (one : BatchResult). batches ++ one ∷ next.more) is ∙ (ap (λ (xs : List BatchResult). batches ++ xs) (sym next.rest_is) ∙ gathered.whole));
      long = long;
      stand = stand;
    }

    -- a failed batch is gathered
    pub failed-on : (t : ℕ) (reason : Reason) → verdict ≡ Failed t reason → AreGathered st steps slots all (batches ++ results.Failed t reason ∷ []) to (batch + 1)
    failed-on t reason e =
        go-on (results.Failed t reason) all (go next.result refl next.is) gathered.long
        (λ i task outcome kept low held stands. gathered.stand i task outcome kept (omega (arith, to-low, low)) held stands)
      where
        go : (result : BatchResult) → next.result ≡ result → IsVerdictOf st from next.size result verdict → results.Failed t reason ≡ next.result
        go (results.Applied outcomes) is of = absurd (let both : Failed t reason ≡ Applied = sym e ∙ of.0 in grind arith)
        go (results.Failed u other) is of = let both : Failed t reason ≡ Failed u other = sym e ∙ of in let same : results.Failed t reason ≡ results.Failed u other = cc in same ∙ sym is

    record IsApplied : Type 0 where
      outcomes : List Outcome
      result_is : results.Applied outcomes ≡ next.result
      long : length outcomes ≡ next.size
      hold : HoldOutcomes st from outcomes

    module _ (applied_is : verdict ≡ Applied) where
      applied : IsApplied
      applied = go next.result refl next.is
        where
          go : (result : BatchResult) → next.result ≡ result → IsVerdictOf st from next.size result verdict → IsApplied
          go (results.Applied outcomes) is of = record { outcomes = outcomes; result_is = sym is; long = of.1; hold = of.2 }
          go (results.Failed u other) is of = absurd (let both : Applied ≡ Failed u other = sym applied_is ∙ of in grind arith)

      held-here : (i : ℕ) → from ≤ i → i < to → IsHeld st i
      held-here i low high = held-at st from applied.outcomes i applied.hold low (let l : length applied.outcomes ≡ next.size = applied.long in omega (arith, l, to-here, high))

      kept-here : (i : ℕ) → i < to → (kept : Kept) × (slice_get all_kept i ≡ Some kept)
      kept-here i lt = kept-at i (omega (arith, lt, to-high))

      pub places-below : ArePlacesBelow all_kept from to (length all)
      places-below = (
        to-high,
        λ i low high.
            let held : IsHeld st i = held-here i low high in
            let kept = kept-here i high in
            let r : IsResultAt steps kept.0.place i held.outcome = result-of i held.task held.outcome kept.0 held.is kept.1 in
            rw kept.1 (let l : kept.0.place < length steps = slice_get_within steps kept.0.place (Finish r.done) r.stands in omega (arith, l, gathered.long)),
      )

      places-apart : ArePlacesApart all_kept from to
      places-apart = λ i j low less high same.
          let mine = kept-here i (omega (arith, less, high)) in
          let theirs = kept-here j high in
          stand-apart i j mine.0 theirs.0 (differ i j less) (held-here i low (omega (arith, less, high))) (held-here j (omega (arith, low, less)) high) mine.1 theirs.1
          (sym (ap place_by mine.1) ∙ (same ∙ ap place_by theirs.1))
        where
          differ : (a b : ℕ) → a < b → a ≢ b
          differ a b l e = absurd (omega (arith, l, e))

      outcomes-at : (n : ℕ) (outcomes : List Outcome) → from ≤ n → n + length outcomes ≤ length all_kept → HoldOutcomes st n outcomes → AreOutcomesAt all_kept all n outcomes
      outcomes-at n [] low high hold = tt
      outcomes-at n (outcome ∷ outcomes) low high hold =
          let kept = kept-at n (omega (arith, high)) in (
            (kept.0, kept.1, gathered.stand n hold.0.0 outcome kept.0 low hold.0.1 kept.1),
            outcomes-at (suc n) outcomes (omega (arith, low)) (omega (arith, high)) hold.1,
          )

      -- the place of a later one is none of theirs
      later-apart : (i : ℕ) (task : Task) (outcome : Outcome) (kept : Kept) → to ≤ i → st.slots i ≡ Held task outcome → slice_get all_kept i ≡ Some kept → IsNoPlace all_kept from to kept.place
      later-apart i task outcome kept late held stands = λ j low high same.
          let mine = kept-here j high in
          stand-apart j i mine.0 kept (differ j i (omega (arith, high, late))) (held-here j low high) (record { task = task; outcome = outcome; is = held }) mine.1 stands (sym (ap place_by mine.1) ∙ same)
        where
          differ : (a b : ℕ) → a < b → a ≢ b
          differ a b l e = absurd (omega (arith, l, e))

      -- an applied batch is gathered
      pub applied-on : (moved : List Outcome) (new : List (Option Outcome))
          → ((found : List Outcome) → ArePlacesApart all_kept from to → from + length found ≡ to → AreOutcomesAt all_kept all from found → moved ≡ found)
          → ((place : ℕ) → IsNoPlace all_kept from to place → slice_get new place ≡ slice_get all place) → length new ≡ length all
          → AreGathered st steps slots new (batches ++ results.Applied moved ∷ []) to (batch + 1)
      applied-on moved new moved_are others long =
          let l : length applied.outcomes ≡ next.size = applied.long in
          let are_moved : moved ≡ applied.outcomes = moved_are applied.outcomes places-apart (omega (arith, l, to-here)) (outcomes-at from applied.outcomes (omega arith) (omega (arith, l, to-here, to-high)) applied.hold) in
          go-on (results.Applied moved) new (ap (λ (outcomes : List Outcome). results.Applied outcomes) are_moved ∙ applied.result_is) (long ∙ gathered.long)
          (λ i task outcome kept late held stands.
          others kept.place (later-apart i task outcome kept late held stands) ∙ gathered.stand i task outcome kept (omega (arith, to-low, late)) held stands)

  -- all are gathered
  pub all-gathered : (all : List (Option Outcome)) (batches : List BatchResult) (from batch : ℕ) → AreGathered st steps slots all batches from batch → length slots.verdicts.items ≤ batch
      → batches ≡ st.results
  all-gathered all batches from batch gathered past =
      let none : gathered.rest ≡ [] =
      none-left st from gathered.sizes gathered.rest
      (subst (λ (verdicts : List Verdict). AreVerdictsOf st from gathered.sizes gathered.rest verdicts) (drop_all batch slots.verdicts.items past) gathered.left) in
      sym (append-nil batches) ∙ (ap (λ (xs : List BatchResult). batches ++ xs) (sym none) ∙ gathered.whole)
