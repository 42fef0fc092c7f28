-- Where nothing runs and not all is settled, some transaction may be taken.
use Rattle.std.proofs.Common.{◌≡◌, ℕ, zero, suc, ◌+◌, ◌<◌, ◌≤◌, true, false, List, [], ◌∷◌, Option, Some, None, inl, inr, refl, arith, sum}
use Rattle.std.proofs.lemmas.Bool.{lt-ltb, true≢false}
use Rattle.std.proofs.lemmas.List.Sums.{sum_by-cons}
use Rattle.saw_messages.specs.declared.outcome.Outcome.TheVariants.{Ok, Invalid}
use Rattle.saw_context.specs.declared.batch_result.BatchResult.{BatchResult}
use Rattle.saw_machine.specs.Orders.{Order}
use Rattle.saw_machine.specs.Machine.{Closed, Held, IsReady, Running, Slot, Slots, State, Task, Waiting, front, front_at, holds_ok, is_closed, run, start}
use Rattle.saw_machine.specs.Laws.{IsQuiet, NeverStuck}
use Rattle.saw_machine.proofs.Onwards.{IsOn, front-none, on-runs, open-from}
use Rattle.saw_machine.proofs.Puts.{ok-valid, same_or}

-- the first of a batch that does not hold Ok
record Gap (slots : Slots) (n size : ℕ) : Type 0 where
  place : ℕ
  from : n ≤ place
  to : place < n + size
  waits : slots place ≡ Waiting
  before : (j : ℕ) → n ≤ j → j < place → holds_ok (slots j) ≡ true

gap : (slots : Slots) (n size : ℕ) → ((i k : ℕ) (task : Task) → slots i ≡ Running k task → ⊥) → ((i : ℕ) → n ≤ i → is_closed (slots i) ≡ false)
    → front slots n size ≡ None → Gap slots n size
gap slots n zero quiet are_open e = absurd cc
gap slots n (suc size) quiet are_open e =
    go (slots n) refl (front slots (suc n) size) refl e (λ none. gap slots (suc n) size quiet (λ i from. are_open i (omega arith)) none)
  where
    go : (slot : Slot) → slots n ≡ slot → (found : Option BatchResult) → front slots (suc n) size ≡ found → front_at slot found ≡ None
        → (front slots (suc n) size ≡ None → Gap slots (suc n) size) → Gap slots n (suc size)
    go Waiting is found onward e more = record { place = n; from = omega arith; to = omega arith; waits = is; before = λ j from less. absurd (omega arith) }
    go (Running k task) is found onward e more = absurd (quiet n k task is)
    go (Held task (Ok changes events)) is None onward e more =
        let later : Gap slots (suc n) size = more onward in
        let from = later.from in
        let to = later.to in
        record {
          place = later.place;
          from = omega arith;
          to = omega arith;
          waits = later.waits;
          before = λ j first less. elim (same_or j n) [ inl here ↦ rw (here, is) refl | inr other ↦ later.before j (omega arith) less ];
        }
    go (Held task (Ok changes events)) is (Some result) onward e more = absurd cc
    go (Held task (Invalid reason)) is found onward e more = absurd cc
    go Closed is found onward e more = let isnt : is_closed (slots n) ≡ false = are_open n (omega arith) in absurd (true≢false (rw is at isnt))

-- it may be taken
gap-ready : (order : Order) (st : State) (size : ℕ) (rest : List ℕ) → st.rest ≡ size ∷ rest → (first : Gap st.slots st.first size)
    → IsReady order st first.place
gap-ready order st size rest e first =
    let to = first.to in
    let more : sum (size ∷ rest) ≡ size + sum rest = sum_by-cons (λ x. x) size rest in
    record {
      waiting = first.waits;
      unsettled = first.from;
      inside = rw (e, more) (omega arith);
      preds = λ j from less edge. first.before j from less;
      mates = λ j from less. ok-valid (st.slots j) (first.before j (rw (e, lt-ltb first.place (st.first + size) to) at from) less);
    }

goes-on : (order : Order) (st : State) (rest : List ℕ) → st.rest ≡ rest → IsOn st → IsQuiet st → (rest ≡ [] → ⊥) → (i : ℕ) × IsReady order st i
goes-on order st [] e on quiet some = absurd (some refl)
goes-on order st (size ∷ rest) e on quiet some =
    let first = gap st.slots st.first size quiet (open-from st.slots st.first on.closed) (front-none st size rest on e) in
    (first.place, gap-ready order st size rest e first)

pub never-stuck : NeverStuck
never-stuck order sizes moves legal quiet some =
    let st = run order (start order sizes) moves in
    goes-on order st st.rest refl (on-runs order sizes moves legal) quiet some
