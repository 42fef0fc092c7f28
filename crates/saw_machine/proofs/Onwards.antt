-- What is closed is settled, and the first batch that is not has no result yet.
use Rattle.std.specs.Prelude.{⊤}
use Rattle.std.proofs.Common.{◌≡◌, ℕ, zero, suc, ◌+◌, ◌<◌, ◌≤◌, true, false, List, [], ◌∷◌, ◌++◌, Option, Some, None, inl, inr, refl, sym, subst, ◌∙◌, arith}
use Rattle.std.proofs.lemmas.Bool.{false_from_ne_true, true≢false}
use Rattle.saw_context.specs.declared.batch_result.BatchResult.{BatchResult}
use Rattle.saw_context.specs.declared.batch_result.BatchResult.TheVariants.{Applied, Failed}
use Rattle.saw_machine.specs.Orders.{Order}
use Rattle.saw_machine.specs.Machine.{AreLegal, Finish, GiveBack, Held, IsLegal, Move, Slot, Slots, State, Take, Waiting}
use Rattle.saw_machine.specs.Machine.{front, front_at, is_closed, next, put, run, settle, slots_after, start}
use Rattle.saw_machine.proofs.Fates.{Closes, Stays, WaitsAgain, fate}
use Rattle.saw_machine.proofs.Hits.{within-is}
use Rattle.saw_machine.proofs.Inductions.{run-all, settle-all}
use Rattle.saw_machine.proofs.Moves.{given}
use Rattle.saw_machine.proofs.Puts.{again-closed, put-other, put-same, same_or}

-- the first of these batches has no result
abbrev pub IsPending : Slots → ℕ → List ℕ → Type 0
IsPending slots first [] = ⊤
IsPending slots first (size ∷ rest) = front slots first size ≡ None

-- what is closed comes before this number
abbrev pub AreClosed : Slots → ℕ → Type 0
AreClosed slots first = (j : ℕ) → is_closed (slots j) ≡ true → j < first

-- of each state that moves lead to
pub record IsOn (st : State) : Type 0 where
  pub pending : IsPending st.slots st.first st.rest
  pub closed : AreClosed st.slots st.first

-- nothing of an unsettled batch is closed
pub open-from : (slots : Slots) (first : ℕ) → AreClosed slots first → (i : ℕ) → first ≤ i → is_closed (slots i) ≡ false
open-from slots first closed i from = false_from_ne_true (is_closed (slots i)) (λ is. let less = closed i is in absurd (omega arith))

-- the first unsettled batch has no result
pub front-none : (st : State) (size : ℕ) (rest : List ℕ) → IsOn st → st.rest ≡ size ∷ rest → front st.slots st.first size ≡ None
front-none st size rest on is = subst (IsPending st.slots st.first) is on.pending

-- ---- one slot is put

front-put : (slots : Slots) (i : ℕ) (slot : Slot) → ((others : Option BatchResult) → front_at slot others ≡ front_at (slots i) others)
    → (n size : ℕ) → front (put slots i slot) n size ≡ front slots n size
front-put slots i slot same n zero = refl
front-put slots i slot same n (suc size) = elim (same_or n i) [
  | inl here ↦ rw (front-put slots i slot same (suc n) size, here, put-same slots i slot) (same (front slots (suc i) size))
  | inr other ↦ rw (front-put slots i slot same (suc n) size, put-other slots i slot n other) refl
]

pending-put : (slots : Slots) (i : ℕ) (slot : Slot) → ((others : Option BatchResult) → front_at slot others ≡ front_at (slots i) others)
    → (first : ℕ) (rest : List ℕ) → IsPending slots first rest → IsPending (put slots i slot) first rest
pending-put slots i slot same first [] pending = tt
pending-put slots i slot same first (size ∷ rest) pending = front-put slots i slot same first size ∙ pending

closed-put : (slots : Slots) (i : ℕ) (slot : Slot) (first : ℕ) → is_closed slot ≡ false → AreClosed slots first → AreClosed (put slots i slot) first
closed-put slots i slot first isnt closed j is = elim (same_or j i) [
  | inl here ↦ absurd (true≢false (sym (rw (here, put-same slots i slot) at is) ∙ isnt))
  | inr other ↦ closed j (rw (put-other slots i slot j other) at is)
]

-- ---- batches settle

pub closed-after : (order : Order) (slots : Slots) (first size : ℕ) (result : BatchResult) → AreClosed slots first
    → AreClosed (slots_after order first size result slots) (first + size)
closed-after order slots first size (Applied outcomes) closed j is = let less = closed j is in omega arith
closed-after order slots first size (Failed t reason) closed j is = elim (fate order first size t reason slots j) [
  | Closes in_batch e ↦ (within-is first size j in_batch).1
  | WaitsAgain out hit e ↦ let less = closed j (sym (again-closed (slots j)) ∙ (rw e at is)) in omega arith
  | Stays out safe e ↦ let less = closed j (rw e at is) in omega arith
]

settle-pending : (order : Order) (slots : Slots) (attempts : ℕ → ℕ) (results : List BatchResult) (first : ℕ) (rest : List ℕ) (st : State)
    → st ≡ settle order slots attempts results first rest → IsPending st.slots st.first st.rest
settle-pending order slots attempts results first [] st e = rw e tt
settle-pending order slots attempts results first (size ∷ rest) st e =
    go (front slots first size) refl
    (λ result is. settle-pending order (slots_after order first size result slots) attempts (results ++ result ∷ []) (first + size) rest st is)
  where
    go : (found : Option BatchResult) → front slots first size ≡ found
        → ((result : BatchResult) → st ≡ settle order (slots_after order first size result slots) attempts (results ++ result ∷ []) (first + size) rest
        → IsPending st.slots st.first st.rest) → IsPending st.slots st.first st.rest
    go None is onward = rw (rw is at e) is
    go (Some result) is onward = onward result (rw is at e)

pub on-settle : (order : Order) (slots : Slots) (attempts : ℕ → ℕ) (results : List BatchResult) (first : ℕ) (rest : List ℕ) → AreClosed slots first
    → IsOn (settle order slots attempts results first rest)
on-settle order slots attempts results first rest closed = record {
  pending = settle-pending order slots attempts results first rest (settle order slots attempts results first rest) refl;
  closed = settle-all order attempts (λ st. AreClosed st.slots st.first)
      (λ slots results first size rest result e here. closed-after order slots first size result here) slots results first rest closed;
}

-- ---- moves

pub on-start : (order : Order) (sizes : List ℕ) → IsOn (start order sizes)
on-start order sizes = on-settle order (λ i. Waiting) (λ i. 0) [] 0 sizes (λ j is. absurd cc)

pub on-move : (order : Order) (st : State) (move : Move) → IsOn st → IsLegal order st move → IsOn (next order st move)
on-move order st (Take i) on ready = record {
  pending = pending-put st.slots i (given order st (Take i)) (λ others. rw ready.waiting refl) st.first st.rest on.pending;
  closed = closed-put st.slots i (given order st (Take i)) st.first refl on.closed;
}
on-move order st (Finish i n outcome true) on (task, runs, declared) =
    rw runs (on-settle order (put st.slots i (Held task outcome)) st.attempts st.results st.first st.rest
    (closed-put st.slots i (Held task outcome) st.first refl on.closed))
on-move order st (Finish i n outcome false) on (task, runs) = record {
  pending = pending-put st.slots i Waiting (λ others. rw runs refl) st.first st.rest on.pending;
  closed = closed-put st.slots i Waiting st.first refl on.closed;
}
on-move order st (GiveBack i n) on (task, runs) = record {
  pending = pending-put st.slots i Waiting (λ others. rw runs refl) st.first st.rest on.pending;
  closed = closed-put st.slots i Waiting st.first refl on.closed;
}

pub on-run : (order : Order) (st : State) (moves : List Move) → IsOn st → AreLegal order st moves → IsOn (run order st moves)
on-run order st moves on legal = run-all order IsOn (λ st move on legal. on-move order st move on legal) st moves on legal

-- and so of each state that a start leads to
pub on-runs : (order : Order) (sizes : List ℕ) (moves : List Move) → AreLegal order (start order sizes) moves → IsOn (run order (start order sizes) moves)
on-runs order sizes moves legal = on-run order (start order sizes) moves (on-start order sizes) legal
