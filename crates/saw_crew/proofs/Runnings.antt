-- What runs was taken, and a job that was given back runs no more.
use Rattle.std.proofs.Common.{◌≡◌, ℕ, suc, Bool, true, false, List, [], ◌∷◌, Some, slice_get, sym, ap, ◌∙◌, ◌⊎◌, inl, inr, is_none}
use Rattle.saw_messages.specs.TxShapes.{TxShape}
use Rattle.saw_messages.specs.declared.outcome.Outcome.{Outcome}
use Rattle.saw_context.specs.declared.batch_result.BatchResult.{BatchResult}
use Rattle.saw_context.specs.declared.job.Done.{Done}
use Rattle.saw_context.specs.declared.job.Ticket.{Ticket}
use Rattle.saw_machine.specs.Machine.{Closed, Held, Running, Slot, Slots, State, Task, Waiting, finished, next, put, settle, task_of}
use Rattle.saw_machine.specs.Machine as machine
use Rattle.saw_machine.specs.Orders.{Order}
use Rattle.saw_machine.proofs.Attempts.{after-running}
use Rattle.saw_machine.proofs.Inductions.{settle-all}
use Rattle.saw_machine.proofs.Left.{start-quiet}
use Rattle.saw_machine.proofs.Puts.{put-other, put-same, same_or}
use Rattle.saw_schedule.specs.Histories.{AllMayHappen, History, IsReplay, MayHappen, after_steps, difference_in, move_of, order_in, sizes_in, start_of, state_of, txs_in, with_step}
use Rattle.saw_schedule.specs.Orders.{order_of}
use Rattle.saw_schedule.specs.declared.step.Step.{Step}
use Rattle.saw_schedule.specs.declared.step.Step.TheVariants.{Take, Finish, GiveBack}
use Rattle.saw_schedule.proofs.Reached.{state-with_step}

-- ---- moves

-- what runs once batches have settled ran before
settle-runs : (order : Order) (i n : ℕ) (task : Task) (start_slots : Slots) (attempts : ℕ → ℕ) (results : List BatchResult) (first : ℕ) (rest : List ℕ)
    → (settle order start_slots attempts results first rest).slots i ≡ Running n task → start_slots i ≡ Running n task
settle-runs order i n task start_slots attempts results first rest =
    settle-all order attempts (λ st. st.slots i ≡ Running n task → start_slots i ≡ Running n task)
    (λ slots results first size rest result e here runs. here (after-running order slots first size result i n task runs)) start_slots results first rest (λ runs. runs)

finished-stops : (slot : Slot) (outcome : Outcome) (n : ℕ) (task : Task) → finished slot outcome ≡ Running n task → ⊥
finished-stops Waiting outcome n task e = absurd cc
finished-stops (Running k other) outcome n task e = absurd cc
finished-stops (Held other held) outcome n task e = absurd cc
finished-stops Closed outcome n task e = absurd cc

waits-stops : (n : ℕ) (task : Task) → Waiting ≡ Running n task → ⊥
waits-stops n task e = absurd cc

-- what runs beside one that stops
put-runs : (slots : Slots) (j : ℕ) (slot : Slot) → ((n : ℕ) (task : Task) → slot ≡ Running n task → ⊥) → (i n : ℕ) (task : Task) → put slots j slot i ≡ Running n task
    → (slots i ≡ Running n task) × (i ≡ j → ⊥)
put-runs slots j slot stops i n task e = elim (same_or i j) [
  | inl here ↦ absurd (stops n task (sym (put-same slots j slot) ∙ (rw here at e)))
  | inr apart ↦ (sym (put-other slots j slot i apart) ∙ e, apart)
]

finish-runs : (order : Order) (st : State) (j k : ℕ) (outcome : Outcome) (agrees : Bool) (i n : ℕ) (task : Task) → (next order st (machine.Finish j k outcome agrees)).slots i ≡ Running n task
    → (st.slots i ≡ Running n task) × (i ≡ j → ⊥)
finish-runs order st j k outcome true i n task e =
    put-runs st.slots j (finished (st.slots j) outcome) (finished-stops (st.slots j) outcome) i n task
    (settle-runs order i n task (put st.slots j (finished (st.slots j) outcome)) st.attempts st.results st.first st.rest e)
finish-runs order st j k outcome false i n task e = put-runs st.slots j Waiting waits-stops i n task e

back-runs : (order : Order) (st : State) (j k i n : ℕ) (task : Task) → (next order st (machine.GiveBack j k)).slots i ≡ Running n task → (st.slots i ≡ Running n task) × (i ≡ j → ⊥)
back-runs order st j k i n task e = put-runs st.slots j Waiting waits-stops i n task e

attempt_in : Slot → ℕ
attempt_in Waiting = 0
attempt_in (Running n task) = n
attempt_in (Held task outcome) = 0
attempt_in Closed = 0

take-runs : (order : Order) (st : State) (j i n : ℕ) (task : Task) → (next order st (machine.Take j)).slots i ≡ Running n task
    → ((i ≡ j) × (n ≡ st.attempts j)) ⊎ (st.slots i ≡ Running n task)
take-runs order st j i n task e = elim (same_or i j) [
  | inl here ↦ inl (here, sym (same (sym (put-same st.slots j (Running (st.attempts j) (task_of order st.slots j))) ∙ (rw here at e))))
  | inr apart ↦ inr (sym (put-other st.slots j (Running (st.attempts j) (task_of order st.slots j)) i apart) ∙ e)
]
  where
    same : Running (st.attempts j) (task_of order st.slots j) ≡ Running n task → st.attempts j ≡ n
    same q = cc

-- ---- histories

abbrev pub WasTaken : List Step → ℕ → ℕ → Type 0
WasTaken steps i n = (k : ℕ) × (slice_get steps k ≡ Some (Take (record { index = i; attempt = n })))

taken-from : (txs : List TxShape) (st : State) (steps : List Step) (i n : ℕ) (task : Task) → AllMayHappen txs st steps → (after_steps txs st steps).slots i ≡ Running n task
    → (st.slots i ≡ Running n task) ⊎ WasTaken steps i n
taken-from txs st [] i n task may e = inl e
taken-from txs st (step ∷ steps) i n task may e =
    go step may.0 (taken-from txs (next (order_of txs) st (move_of txs st step)) steps i n task may.1 e)
  where
    go : (step : Step) → MayHappen txs st step → ((next (order_of txs) st (move_of txs st step)).slots i ≡ Running n task) ⊎ WasTaken steps i n
        → (st.slots i ≡ Running n task) ⊎ WasTaken (step ∷ steps) i n
    go step may (inr (k, q)) = inr (suc k, q)
    go (Take ticket) may (inl runs) = elim (take-runs (order_of txs) st ticket.index i n task runs) [
      | inl (here, attempt) ↦ inr (0, ap (λ (t : Ticket). Some (Take t)) (ap (λ (x : ℕ). record { index = x; attempt = ticket.attempt }) (sym here) ∙ ap (λ (x : ℕ). record { index = i; attempt = x }) (may.1 ∙ sym attempt)))
      | inr ran ↦ inl ran
    ]
    go (Finish done) may (inl runs) =
        inl (finish-runs (order_of txs) st done.ticket.index done.ticket.attempt done.outcome (is_none (difference_in txs st done)) i n task runs).0
    go (GiveBack ticket) may (inl runs) = inl (back-runs (order_of txs) st ticket.index ticket.attempt i n task runs).0

-- what runs was taken
pub running-taken : (h : History) (i n : ℕ) (task : Task) → IsReplay h → (state_of h).slots i ≡ Running n task → WasTaken h.steps i n
running-taken h i n task replay e = elim (taken-from (txs_in h) (start_of h) h.steps i n task replay e) [
  | inl runs ↦ absurd (start-quiet (order_in h) (sizes_in h) i n task runs)
  | inr taken ↦ taken
]

-- what runs behind a give-back ran before, and is another
pub given-running : (h : History) (ticket : Ticket) (i n : ℕ) (task : Task) → (state_of (with_step h (GiveBack ticket))).slots i ≡ Running n task
    → ((state_of h).slots i ≡ Running n task) × (i ≡ ticket.index → ⊥)
given-running h ticket i n task e = back-runs (order_in h) (state_of h) ticket.index ticket.attempt i n task (rw (state-with_step h (GiveBack ticket)) at e)

-- what runs behind a result ran before, and is another
pub finished-running : (h : History) (done : Done) (i n : ℕ) (task : Task) → (state_of (with_step h (Finish done))).slots i ≡ Running n task
    → ((state_of h).slots i ≡ Running n task) × (i ≡ done.ticket.index → ⊥)
finished-running h done i n task e =
    finish-runs (order_in h) (state_of h) done.ticket.index done.ticket.attempt done.outcome (is_none (difference_in (txs_in h) (state_of h) done)) i n task
    (rw (state-with_step h (Finish done)) at e)
