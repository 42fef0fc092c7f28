-- Which attempt of a transaction runs, and how many there were.
use Rattle.std.proofs.Common.{◌≡◌, ℕ, suc, ◌+◌, ◌≤◌, true, false, List, [], inl, inr, refl, sym, ap, ◌∙◌, arith}
use Rattle.std.proofs.lemmas.Bool.{eq-eqb, ne_eqb}
use Rattle.saw_messages.specs.declared.outcome.Outcome.{Outcome}
use Rattle.saw_context.specs.declared.batch_result.BatchResult.{BatchResult}
use Rattle.saw_context.specs.declared.batch_result.BatchResult.TheVariants.{Applied, Failed}
use Rattle.saw_machine.specs.Orders.{Order}
use Rattle.saw_machine.specs.Machine.{AreLegal, Closed, Finish, GiveBack, Held, Move, Running, Slot, Slots, State, Take, Task, Waiting}
use Rattle.saw_machine.specs.Machine.{again, finished, next, put, run, settle, slots_after, start, task_of}
use Rattle.saw_machine.proofs.Fates.{Closes, Stays, WaitsAgain, fate}
use Rattle.saw_machine.proofs.Inductions.{run-all, settle-all}
use Rattle.saw_machine.proofs.Moves.{given}
use Rattle.saw_machine.proofs.Puts.{put-other, put-same, same_or}

-- ---- what does not run

-- what waits again does not run
again-rests : (slot : Slot) (n : ℕ) (task : Task) → again slot ≡ Running n task → ⊥
again-rests Waiting n task e = absurd cc
again-rests (Running k other) n task e = absurd cc
again-rests (Held other outcome) n task e = absurd cc
again-rests Closed n task e = absurd cc

-- nor does what is finished
finished-rests : (slot : Slot) (outcome : Outcome) (n : ℕ) (task : Task) → finished slot outcome ≡ Running n task → ⊥
finished-rests Waiting outcome n task e = absurd cc
finished-rests (Running k other) outcome n task e = absurd cc
finished-rests (Held other held) outcome n task e = absurd cc
finished-rests Closed outcome n task e = absurd cc

-- what runs after a batch has settled ran before
pub after-running : (order : Order) (slots : Slots) (first size : ℕ) (result : BatchResult) (i n : ℕ) (task : Task)
    → slots_after order first size result slots i ≡ Running n task → slots i ≡ Running n task
after-running order slots first size (Applied outcomes) i n task runs = runs
after-running order slots first size (Failed t reason) i n task runs = elim (fate order first size t reason slots i) [
  | Closes is e ↦ absurd (closed (sym e ∙ runs))
  | WaitsAgain out hit e ↦ absurd (again-rests (slots i) n task (sym e ∙ runs))
  | Stays out safe e ↦ sym e ∙ runs
]
  where
    closed : Closed ≡ Running n task → ⊥
    closed e = cc

-- ---- the attempt that runs

-- each attempt that runs is the latest
abbrev pub AreLatest : Slots → (ℕ → ℕ) → Type 0
AreLatest slots attempts = (i n : ℕ) (task : Task) → slots i ≡ Running n task → attempts i ≡ suc n

-- a slot gets a content that does not run
put-latest : (slots : Slots) (attempts : ℕ → ℕ) (j : ℕ) (slot : Slot) → ((n : ℕ) (task : Task) → slot ≡ Running n task → ⊥) → AreLatest slots attempts
    → AreLatest (put slots j slot) attempts
put-latest slots attempts j slot rests latest i n task runs = elim (same_or i j) [
  | inl here ↦ absurd (rests n task (rw (here, put-same slots j slot) at runs))
  | inr other ↦ latest i n task (rw (put-other slots j slot i other) at runs)
]

-- batches settle
settle-latest : (order : Order) (slots : Slots) (attempts : ℕ → ℕ) (results : List BatchResult) (first : ℕ) (rest : List ℕ) → AreLatest slots attempts
    → AreLatest (settle order slots attempts results first rest).slots (settle order slots attempts results first rest).attempts
settle-latest order slots attempts results first rest latest =
    settle-all order attempts (λ st. AreLatest st.slots st.attempts)
    (λ slots results first size rest result e here i n task runs. here i n task (after-running order slots first size result i n task runs))
    slots results first rest latest

-- a transaction is taken
take-latest : (order : Order) (st : State) (j : ℕ) → AreLatest st.slots st.attempts → AreLatest (next order st (Take j)).slots (next order st (Take j)).attempts
take-latest order st j latest i n task runs = elim (same_or i j) [
  | inl here ↦
      let now : Running (st.attempts j) (task_of order st.slots j) ≡ Running n task = rw (here, put-same st.slots j (given order st (Take j))) at runs in
      let same : st.attempts j ≡ n = cc in
      rw (here, eq-eqb j j refl) (ap suc same)
  | inr other ↦ rw (ne_eqb i j other) (latest i n task (rw (put-other st.slots j (given order st (Take j)) i other) at runs))
]

-- one move
pub latest-move : (order : Order) (st : State) (move : Move) → AreLatest st.slots st.attempts
    → AreLatest (next order st move).slots (next order st move).attempts
latest-move order st (Take j) latest = take-latest order st j latest
latest-move order st (Finish j n outcome true) latest =
    settle-latest order (put st.slots j (finished (st.slots j) outcome)) st.attempts st.results st.first st.rest
    (put-latest st.slots st.attempts j (finished (st.slots j) outcome) (finished-rests (st.slots j) outcome) latest)
latest-move order st (Finish j n outcome false) latest = put-latest st.slots st.attempts j Waiting (λ k task e. absurd cc) latest
latest-move order st (GiveBack j n) latest = put-latest st.slots st.attempts j Waiting (λ k task e. absurd cc) latest

-- of each state that a start leads to
pub latest-runs : (order : Order) (sizes : List ℕ) (moves : List Move) → AreLegal order (start order sizes) moves
    → (i n : ℕ) (task : Task) → (run order (start order sizes) moves).slots i ≡ Running n task
    → (run order (start order sizes) moves).attempts i ≡ suc n
latest-runs order sizes moves legal =
    run-all order (λ st. AreLatest st.slots st.attempts) (λ st move latest legal. latest-move order st move latest) (start order sizes) moves
    (settle-latest order (λ i. Waiting) (λ i. 0) [] 0 sizes (λ i n task e. absurd cc)) legal

-- ---- how many there were

-- settling counts none
pub attempts-settle : (order : Order) (slots : Slots) (attempts : ℕ → ℕ) (results : List BatchResult) (first : ℕ) (rest : List ℕ)
    → (settle order slots attempts results first rest).attempts ≡ attempts
attempts-settle order slots attempts results first rest =
    settle-all order attempts (λ st. st.attempts ≡ attempts) (λ slots results first size rest result e here. here) slots results first rest refl

-- none at the start
pub attempts-start : (order : Order) (sizes : List ℕ) (i : ℕ) → (start order sizes).attempts i ≡ 0
attempts-start order sizes i = ap (λ (attempts : ℕ → ℕ). attempts i) (attempts-settle order (λ i. Waiting) (λ i. 0) [] 0 sizes)

-- a move counts at most one
pub attempts-move : (order : Order) (st : State) (move : Move) (i : ℕ) → (next order st move).attempts i ≤ st.attempts i + 1
attempts-move order st (Take j) i = elim (same_or i j) [
  | inl here ↦ rw (eq-eqb i j here) (omega arith)
  | inr other ↦ rw (ne_eqb i j other) (omega arith)
]
attempts-move order st (Finish j n outcome true) i =
    let slots : Slots = put st.slots j (finished (st.slots j) outcome) in
    let same = ap (λ (attempts : ℕ → ℕ). attempts i) (attempts-settle order slots st.attempts st.results st.first st.rest) in
    omega arith
attempts-move order st (Finish j n outcome false) i = omega arith
attempts-move order st (GiveBack j n) i = omega arith
