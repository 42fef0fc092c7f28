-- The steps of a schedule are legal moves of the machine.
use Rattle.std.proofs.Common.{◌≡◌, ℕ, ◌+◌, ◌≤◌, true, List, [], ◌∷◌, ◌++◌, Option, Some, None, is_none, refl, sym, ap, append_assoc, subst, ◌∙◌}
use Rattle.saw_messages.specs.TxShapes.{TxShape}
use Rattle.saw_context.specs.declared.job.Done.{Done}
use Rattle.saw_context.specs.declared.job.Ticket.{Ticket}
use Rattle.saw_machine.proofs.Counts.{few-reruns}
use Rattle.saw_machine.proofs.Reruns.{no-needless-rerun}
use Rattle.saw_machine.proofs.States.{states-are-lawful}
use Rattle.saw_machine.proofs.Stuck.{never-stuck}
use Rattle.saw_machine.specs.Laws.{IsLawful, IsQuiet, failed_before, returns_of, some_disturbs}
use Rattle.saw_machine.specs.Machine.{AreLegal, IsLegal, IsReady, Move, State, next, run}
use Rattle.saw_machine.specs.Machine as machine
use Rattle.saw_machine.specs.Orders.{Order}
use Rattle.saw_schedule.proofs.Agreeing.{agreed-declared}
use Rattle.saw_schedule.proofs.Meetings.{meetings}
use Rattle.saw_schedule.specs.Histories.{AllMayHappen, History, IsReplay, MayHappen, RunsIn, after_steps, difference_in, move_of, moves_of}
use Rattle.saw_schedule.specs.Histories.{order_in, sizes_in, start_of, state_of, txs_in}
use Rattle.saw_schedule.specs.Laws.{FewReruns, HistoriesAreLawful, NeverStuck, NoNeedlessRerun}
use Rattle.saw_schedule.specs.Orders.{order_of}
use Rattle.saw_schedule.specs.declared.ended.Difference.{Difference}
use Rattle.saw_schedule.specs.declared.step.Step.{Step}
use Rattle.saw_schedule.specs.declared.step.Step.TheVariants.{Take, Finish, GiveBack}

module _ (txs : List TxShape) where
  -- the moves of steps lead to the state after them
  pub run-moves : (st : State) (steps : List Step) → run (order_of txs) st (moves_of txs st steps) ≡ after_steps txs st steps
  run-moves st [] = refl
  run-moves st (step ∷ steps) = run-moves (next (order_of txs) st (move_of txs st step)) steps

  -- a result that agrees ends as accepted, any other as refused
  finish-legal : (st : State) (done : Done) → RunsIn st done.ticket → IsLegal (order_of txs) st (move_of txs st (Finish done))
  finish-legal st done (task, runs) = go (difference_in txs st done) refl
    where
      go : (found : Option Difference) → difference_in txs st done ≡ found
          → IsLegal (order_of txs) st (machine.Finish done.ticket.index done.ticket.attempt done.outcome (is_none found))
      go None e = (task, runs, agreed-declared txs st done e)
      go (Some difference) e = (task, runs)

  pub step-legal : (st : State) (step : Step) → MayHappen txs st step → IsLegal (order_of txs) st (move_of txs st step)
  step-legal st (Take ticket) may = may.0
  step-legal st (Finish done) may = finish-legal st done may
  step-legal st (GiveBack ticket) may = may

  -- steps that may happen are legal moves
  pub steps-legal : (st : State) (steps : List Step) → AllMayHappen txs st steps → AreLegal (order_of txs) st (moves_of txs st steps)
  steps-legal st [] may = tt
  steps-legal st (step ∷ steps) may = (step-legal st step may.0, steps-legal (next (order_of txs) st (move_of txs st step)) steps may.1)

  -- ---- steps after others

  pub after-append : (st : State) (steps more : List Step) → after_steps txs st (steps ++ more) ≡ after_steps txs (after_steps txs st steps) more
  after-append st [] more = refl
  after-append st (step ∷ steps) more = after-append (next (order_of txs) st (move_of txs st step)) steps more

  pub moves-append : (st : State) (steps more : List Step)
      → moves_of txs st (steps ++ more) ≡ moves_of txs st steps ++ moves_of txs (after_steps txs st steps) more
  moves-append st [] more = refl
  moves-append st (step ∷ steps) more =
      ap (λ (moves : List Move). move_of txs st step ∷ moves) (moves-append (next (order_of txs) st (move_of txs st step)) steps more)

  pub happen-behind : (st : State) (steps more : List Step) → AllMayHappen txs st (steps ++ more) → AllMayHappen txs (after_steps txs st steps) more
  happen-behind st [] more may = may
  happen-behind st (step ∷ steps) more may = happen-behind (next (order_of txs) st (move_of txs st step)) steps more may.1

  pub happen-append : (st : State) (steps more : List Step) → AllMayHappen txs st steps → AllMayHappen txs (after_steps txs st steps) more
      → AllMayHappen txs st (steps ++ more)
  happen-append st [] more may later = later
  happen-append st (step ∷ steps) more may later = (may.0, happen-append (next (order_of txs) st (move_of txs st step)) steps more may.1 later)

-- a state that legal moves lead to
pub history-legal : (h : History) → IsReplay h → AreLegal (order_in h) (start_of h) (moves_of (txs_in h) (start_of h) h.steps)
history-legal h replay = steps-legal (txs_in h) (start_of h) h.steps replay

-- the moves of a history lead to its state
pub history-runs : (h : History) → run (order_in h) (start_of h) (moves_of (txs_in h) (start_of h) h.steps) ≡ state_of h
history-runs h = run-moves (txs_in h) (start_of h) h.steps

-- ---- laws of the machine

-- what the machine keeps is kept
pub histories-are-lawful : HistoriesAreLawful
histories-are-lawful h replay =
    subst (IsLawful (order_in h)) (history-runs h)
    (states-are-lawful (order_in h) (sizes_in h) (moves_of (txs_in h) (start_of h) h.steps) (meetings (txs_in h)) (history-legal h replay))

-- where nothing runs and not all is settled, some transaction may be taken
pub history-not-stuck : NeverStuck
history-not-stuck h replay =
    subst (λ (st : State). IsQuiet st → (st.rest ≡ [] → ⊥) → (i : ℕ) × IsReady (order_in h) st i) (history-runs h)
    (never-stuck (order_in h) (sizes_in h) (moves_of (txs_in h) (start_of h) h.steps) (history-legal h replay))

-- a transaction is taken once, and once more for each return and each failed batch before it
pub history-few-reruns : FewReruns
history-few-reruns h i replay =
    let moves : List Move = moves_of (txs_in h) (start_of h) h.steps in
    subst (λ (st : State). st.attempts i ≤ 1 + returns_of i moves + failed_before 0 (sizes_in h) st.results i) (history-runs h)
    (few-reruns (order_in h) (sizes_in h) moves i (history-legal h replay))

-- between two takes from a state on something disturbs the transaction
between-disturbs : (txs : List TxShape) (st : State) (between : List Step) (first second : Ticket)
    → AllMayHappen txs st (Take first ∷ between ++ Take second ∷ []) → first.index ≡ second.index
    → let taken : State = next (order_of txs) st (machine.Take first.index) in
    some_disturbs (order_of txs) first.index taken (moves_of txs taken between) ≡ true
between-disturbs txs st between first second may same =
    no-needless-rerun (order_of txs) st first.index (moves_of txs taken between)
    (subst (λ (moves : List Move). AreLegal (order_of txs) st (machine.Take first.index ∷ moves)) is
    (steps-legal txs st (Take first ∷ between ++ Take second ∷ []) may))
  where
    taken : State
    taken = next (order_of txs) st (machine.Take first.index)

    is : moves_of txs taken (between ++ Take second ∷ []) ≡ moves_of txs taken between ++ machine.Take first.index ∷ []
    is = moves-append txs taken between (Take second ∷ []) ∙ ap (λ (i : ℕ). moves_of txs taken between ++ machine.Take i ∷ []) (sym same)

-- and so in each history
pub history-no-needless-rerun : NoNeedlessRerun
history-no-needless-rerun batches before between first second replay same =
    subst (λ (st : State). some_disturbs order first.index st (moves_of txs st between) ≡ true) (sym (after-append txs begin before (Take first ∷ [])))
    (between-disturbs txs (after_steps txs begin before) between first second
    (happen-behind txs begin before (Take first ∷ between ++ Take second ∷ [])
    (rw (append_assoc before (Take first ∷ between) (Take second ∷ [])) at replay)) same)
  where
    whole : History
    whole = record { batches = batches; steps = [] }

    txs : List TxShape
    txs = txs_in whole

    order : Order
    order = order_in whole

    begin : State
    begin = start_of whole
