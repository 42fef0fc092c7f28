-- How often a transaction is taken.
use Rattle.std.proofs.Common.{◌≡◌, ℕ, ◌+◌, ◌≤◌, true, false, ◌&&◌, ◌==◌, nat_le, List, []}
use Rattle.std.proofs.Common.{◌∷◌, ◌++◌, inl, inr, refl, ◌∙◌, arith, append_assoc, length, length-append}
use Rattle.std.proofs.lemmas.Bool.{cases_Bool, eqb-true, le-leb}
use Rattle.saw_messages.specs.declared.outcome.Outcome.{Outcome}
use Rattle.saw_context.specs.declared.batch_result.BatchResult.{BatchResult}
use Rattle.saw_context.specs.declared.batch_result.BatchResult.TheVariants.{Applied, Failed}
use Rattle.saw_machine.specs.Orders.{Order}
use Rattle.saw_machine.specs.Machine.{AreLegal, Closed, Finish, GiveBack, Held, IsLegal, Move, Running, Slot, Slots, State, Take, Waiting}
use Rattle.saw_machine.specs.Machine.{again, finished, next, put, run, settle, slots_after, start}
use Rattle.saw_machine.specs.Laws.{FewReruns, failed_before, is_failed, is_return, one_if, returns_of}
use Rattle.saw_machine.proofs.Fates.{Closes, Stays, WaitsAgain, fate}
use Rattle.saw_machine.proofs.Hits.{hit-late}
use Rattle.saw_machine.proofs.Inductions.{settle-all, settled}
use Rattle.saw_machine.proofs.Moves.{given}
use Rattle.saw_machine.proofs.Puts.{put-other, put-same, same_or}
use Rattle.saw_machine.proofs.Reruns.{is_waiting}

-- ---- the place of a state among all batches

-- how many transactions batches of these sizes have
abbrev pub total : List ℕ → ℕ
total [] = 0
total (size ∷ sizes) = size + total sizes

-- the settled batches come first, one for each result
pub record IsPlaced (sizes : List ℕ) (results : List BatchResult) (first : ℕ) (rest : List ℕ) : Type 0 where
  pub settled : List ℕ
  pub whole : settled ++ rest ≡ sizes
  pub start : first ≡ total settled
  pub each : length settled ≡ length results

total-more : (sizes : List ℕ) (size : ℕ) → total (sizes ++ size ∷ []) ≡ total sizes + size
total-more [] size = omega arith
total-more (one ∷ sizes) size = rw (total-more sizes size) (omega arith)

pub placed-more : (sizes : List ℕ) (results : List BatchResult) (first size : ℕ) (rest : List ℕ) (result : BatchResult)
    → IsPlaced sizes results first (size ∷ rest) → IsPlaced sizes (results ++ result ∷ []) (first + size) rest
placed-more sizes results first size rest result placed = record {
  settled = placed.settled ++ size ∷ [];
  whole = append_assoc placed.settled (size ∷ []) rest ∙ placed.whole;
  start = rw (total-more placed.settled size, placed.start) refl;
  each = rw (length-append placed.settled (size ∷ []), length-append results (result ∷ []), placed.each) refl;
}

-- one more failed batch
failed-more : (settled : List ℕ) (results : List BatchResult) (n : ℕ) (result : BatchResult) (i size : ℕ) (rest : List ℕ) → length settled ≡ length results
    → failed_before n (settled ++ size ∷ rest) (results ++ result ∷ []) i
    ≡ failed_before n (settled ++ size ∷ rest) results i + one_if (is_failed result && nat_le (n + total settled + size) i)
failed-more [] [] n result i size [] each = let here : n + 0 ≡ n = omega arith in rw here (omega arith)
failed-more [] [] n result i size (next ∷ rest) each = let here : n + 0 ≡ n = omega arith in rw here (omega arith)
failed-more [] (one ∷ results) n result i size rest each = absurd (grind arith)
failed-more (one ∷ settled) [] n result i size rest each = absurd (grind arith)
failed-more (one ∷ settled) (first ∷ results) n result i size rest each =
    let more = failed-more settled results (n + one) result i size rest (grind arith) in
    let here : n + one + total settled + size ≡ n + (one + total settled) + size = omega arith in
    rw (more, here) (omega arith)

-- ---- the bound

-- the takes of i, and one more where it waits, are no more than one, so many returns, and the failed batches before it
abbrev pub IsBound : ℕ → List ℕ → ℕ → ℕ → Slots → List BatchResult → Type 0
IsBound i sizes returns takes slots results = takes + one_if (is_waiting (slots i)) ≤ 1 + returns + failed_before 0 sizes results i

again-waiting : (slot : Slot) → one_if (is_waiting (again slot)) ≤ one_if (is_waiting slot) + 1
again-waiting Waiting = omega arith
again-waiting (Running n task) = omega arith
again-waiting (Held task outcome) = omega arith
again-waiting Closed = omega arith

after-waiting : (order : Order) (i first size : ℕ) (result : BatchResult) (slots : Slots)
    → one_if (is_waiting (slots_after order first size result slots i)) ≤ one_if (is_waiting (slots i)) + one_if (is_failed result && nat_le (first + size) i)
after-waiting order i first size (Applied outcomes) slots = omega arith
after-waiting order i first size (Failed t reason) slots = elim (fate order first size t reason slots i) [
  | Closes is e ↦ rw e (omega arith)
  | WaitsAgain out hit e ↦
      let late = le-leb (first + size) i (hit-late order.precedes first size i hit) in
      rw (e, late) (again-waiting (slots i))
  | Stays out safe e ↦ rw e (omega arith)
]

bound-more : (order : Order) (i : ℕ) (sizes : List ℕ) (returns takes : ℕ) (slots : Slots) (results : List BatchResult) (first size : ℕ) (rest : List ℕ)
    (result : BatchResult) → IsPlaced sizes results first (size ∷ rest) → IsBound i sizes returns takes slots results
    → IsBound i sizes returns takes (slots_after order first size result slots) (results ++ result ∷ [])
bound-more order i sizes returns takes slots results first size rest result placed bound =
    let here : 0 + total placed.settled + size ≡ first + size = rw placed.start (omega arith) in
    let failed : failed_before 0 sizes (results ++ result ∷ []) i ≡ failed_before 0 sizes results i + one_if (is_failed result && nat_le (first + size) i)
    = rw (placed.whole, here) at (failed-more placed.settled results 0 result i size rest placed.each) in
    let waiting = after-waiting order i first size result slots in
    omega arith

-- the bound at a state
abbrev pub IsCounted : ℕ → List ℕ → ℕ → State → Type 0
IsCounted i sizes returns st = IsBound i sizes returns (st.attempts i) st.slots st.results × IsPlaced sizes st.results st.first st.rest

settle-counted : (order : Order) (i : ℕ) (sizes : List ℕ) (returns : ℕ) (slots : Slots) (attempts : ℕ → ℕ) (results : List BatchResult) (first : ℕ)
    (rest : List ℕ) → IsBound i sizes returns (attempts i) slots results → IsPlaced sizes results first rest
    → IsCounted i sizes returns (settle order slots attempts results first rest)
settle-counted order i sizes returns slots attempts results first rest bound placed =
    settle-all order attempts (IsCounted i sizes returns)
    (λ slots results first size rest result e here. (
      bound-more order i sizes returns (attempts i) slots results first size rest result here.1 here.0,
      placed-more sizes results first size rest result here.1,
    ))
    slots results first rest (bound, placed)

-- ---- moves

-- a slot gets a content that waits no more than what was there
put-bound : (i j : ℕ) (sizes : List ℕ) (returns takes : ℕ) (slots : Slots) (slot : Slot) (results : List BatchResult)
    → one_if (is_waiting slot) ≤ one_if (is_waiting (slots j)) → IsBound i sizes returns takes slots results
    → IsBound i sizes (returns + 0) takes (put slots j slot) results
put-bound i j sizes returns takes slots slot results less bound = elim (same_or i j) [
  | inl here ↦
      let there : takes + one_if (is_waiting (slots j)) ≤ 1 + returns + failed_before 0 sizes results j = rw here at bound in
      rw (here, put-same slots j slot) (omega arith)
  | inr other ↦ rw (put-other slots j slot i other) (omega arith)
]

-- a return
back-bound : (i j : ℕ) (sizes : List ℕ) (returns takes : ℕ) (slots : Slots) (results : List BatchResult) → IsBound i sizes returns takes slots results
    → IsBound i sizes (returns + one_if (i == j)) takes (put slots j Waiting) results
back-bound i j sizes returns takes slots results bound = elim (cases_Bool (i == j)) [ inl is ↦ rw is (omega arith) | inr isnt ↦ rw isnt (omega arith) ]

finished-waiting : (slot : Slot) (outcome : Outcome) → one_if (is_waiting (finished slot outcome)) ≤ one_if (is_waiting slot)
finished-waiting Waiting outcome = omega arith
finished-waiting (Running n task) outcome = omega arith
finished-waiting (Held task held) outcome = omega arith
finished-waiting Closed outcome = omega arith

take-bound : (order : Order) (i j : ℕ) (sizes : List ℕ) (returns : ℕ) (st : State) → st.slots j ≡ Waiting
    → IsBound i sizes returns (st.attempts i) st.slots st.results
    → IsBound i sizes (returns + 0) ((next order st (Take j)).attempts i) (put st.slots j (given order st (Take j))) st.results
take-bound order i j sizes returns st waits bound = elim (cases_Bool (i == j)) [
  | inl is ↦
      let here : i ≡ j = eqb-true i j is in
      let waiting : is_waiting (st.slots i) ≡ true = rw (here, waits) refl in
      let before : st.attempts i + 1 ≤ 1 + returns + failed_before 0 sizes st.results i = rw waiting at bound in
      rw is (omega (arith, before))
  | inr isnt ↦ rw isnt (omega arith)
]

move-counted : (order : Order) (i : ℕ) (sizes : List ℕ) (returns : ℕ) (st : State) (move : Move) → IsCounted i sizes returns st → IsLegal order st move
    → IsCounted i sizes (returns + one_if (is_return i move)) (next order st move)
move-counted order i sizes returns st (Take j) counted ready = (take-bound order i j sizes returns st ready.waiting counted.0, counted.1)
move-counted order i sizes returns st (Finish j n outcome true) counted legal =
    settle-counted order i sizes (returns + 0) (put st.slots j (finished (st.slots j) outcome)) st.attempts st.results st.first st.rest
    (put-bound i j sizes returns (st.attempts i) st.slots (finished (st.slots j) outcome) st.results
    (finished-waiting (st.slots j) outcome) counted.0) counted.1
move-counted order i sizes returns st (Finish j n outcome false) counted legal =
    (back-bound i j sizes returns (st.attempts i) st.slots st.results counted.0, counted.1)
move-counted order i sizes returns st (GiveBack j n) counted legal =
    (back-bound i j sizes returns (st.attempts i) st.slots st.results counted.0, counted.1)

run-counted : (order : Order) (i : ℕ) (sizes : List ℕ) (returns all : ℕ) (st : State) (moves : List Move) → all ≡ returns + returns_of i moves
    → IsCounted i sizes returns st → AreLegal order st moves → IsCounted i sizes all (run order st moves)
run-counted order i sizes returns all st [] is counted legal = let same : all ≡ returns = omega arith in rw same counted
run-counted order i sizes returns all st (move ∷ moves) is counted legal =
    run-counted order i sizes (returns + one_if (is_return i move)) all (next order st move) moves (rw is (omega arith))
    (move-counted order i sizes returns st move counted legal.0) legal.1

start-counted : (order : Order) (i : ℕ) (sizes : List ℕ) → IsCounted i sizes 0 (start order sizes)
start-counted order i sizes =
    settle-counted order i sizes 0 (λ i. Waiting) (λ i. 0) [] 0 sizes (omega arith) (record { settled = []; whole = refl; start = refl; each = refl })

pub few-reruns : FewReruns
few-reruns order sizes moves i legal =
    let counted = run-counted order i sizes 0 (returns_of i moves) (start order sizes) moves (omega arith) (start-counted order i sizes) legal in
    omega (arith, counted.0)
