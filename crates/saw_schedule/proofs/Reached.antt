-- What holds of each state that a history leads to.
use Rattle.std.proofs.Common.{◌≡◌, ℕ, suc, ◌+◌, ◌≤◌, List, [], ◌∷◌, length, subst, arith, sum}
use Rattle.saw_messages.specs.TxShapes.{TxShape}
use Rattle.saw_machine.proofs.Attempts.{AreLatest, attempts-move, attempts-start, latest-runs}
use Rattle.saw_machine.proofs.Settled.{SettledState, settled-runs}
use Rattle.saw_machine.proofs.Spans.{SpansState, spans-runs}
use Rattle.saw_machine.specs.Machine.{Running, State, Task, next}
use Rattle.saw_schedule.proofs.Replays.{after-append, happen-append, history-legal, history-runs}
use Rattle.saw_schedule.specs.Histories.{History, IsReplay, MayHappen, after_steps, move_of, moves_of, order_in, sizes_in, start_of, state_of, txs_in}
use Rattle.saw_schedule.specs.Histories.{with_step}
use Rattle.saw_schedule.specs.Orders.{order_of}
use Rattle.saw_schedule.specs.declared.step.Step.{Step}

-- ---- one more step

-- the state moves once
pub state-with_step : (h : History) (step : Step) → state_of (with_step h step) ≡ next (order_in h) (state_of h) (move_of (txs_in h) (state_of h) step)
state-with_step h step = after-append (txs_in h) (start_of h) h.steps (step ∷ [])

-- a step that may happen goes on with the replay
pub replay-with_step : (h : History) (step : Step) → IsReplay h → MayHappen (txs_in h) (state_of h) step → IsReplay (with_step h step)
replay-with_step h step replay may = happen-append (txs_in h) (start_of h) h.steps (step ∷ []) replay (may, tt)

-- ---- what the machine says

-- each attempt that runs is the latest
pub history-latest : (h : History) → IsReplay h → (i n : ℕ) (task : Task) → (state_of h).slots i ≡ Running n task → (state_of h).attempts i ≡ suc n
history-latest h replay =
    subst (λ (st : State). AreLatest st.slots st.attempts) (history-runs h)
    (latest-runs (order_in h) (sizes_in h) (moves_of (txs_in h) (start_of h) h.steps) (history-legal h replay))

-- the unsettled batches end with the last transaction, and behind it all slots wait
pub history-spans : (h : History) → IsReplay h → SpansState (sum (sizes_in h)) (state_of h)
history-spans h replay =
    subst (SpansState (sum (sizes_in h))) (history-runs h)
    (spans-runs (order_in h) (sizes_in h) (moves_of (txs_in h) (start_of h) h.steps) (history-legal h replay))

-- the results are of the first batches, and their slots hold them
pub history-settled : (h : History) → IsReplay h → SettledState (sizes_in h) (state_of h)
history-settled h replay =
    subst (SettledState (sizes_in h)) (history-runs h)
    (settled-runs (order_in h) (sizes_in h) (moves_of (txs_in h) (start_of h) h.steps) (history-legal h replay))

-- ---- how often a transaction was taken

-- steps take at most as often as there are
attempts-after : (txs : List TxShape) (st : State) (steps : List Step) (i : ℕ) → (after_steps txs st steps).attempts i ≤ st.attempts i + length steps
attempts-after txs st [] i = omega arith
attempts-after txs st (step ∷ steps) i =
    let one = attempts-move (order_of txs) st (move_of txs st step) i in
    let more = attempts-after txs (next (order_of txs) st (move_of txs st step)) steps i in
    omega arith

-- no more often than there were steps
pub history-attempts : (h : History) (i : ℕ) → (state_of h).attempts i ≤ length h.steps
history-attempts h i =
    let none = attempts-start (order_in h) (sizes_in h) i in
    let more = attempts-after (txs_in h) (start_of h) h.steps i in
    omega arith
