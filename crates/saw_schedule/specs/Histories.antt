-- A plan with the steps since, and the state that they lead to.
use Rattle.std.specs.Prelude.{◌≡◌, ◌==◌, ℕ, Bool, List, [], ◌∷◌, ◌++◌, map, length, Option, Some, None, is_none, slice_get, ⊤}
use Rattle.std.specs.Arc.{arc_value}
use Rattle.std.specs.FinMap as finite
use Rattle.saw_messages.specs.TxShapes.{BatchShape, TxShape}
use Rattle.saw_context.specs.Views.{layers_of}
use Rattle.saw_context.specs.declared.job.Done.{Done}
use Rattle.saw_context.specs.declared.job.Job.{Job}
use Rattle.saw_context.specs.declared.job.Ticket.{Ticket}
use Rattle.saw_machine.specs.Machine.{IsLegal, IsReady, Move, Runs, State, Task, next, start, task_in, task_of}
use Rattle.saw_machine.specs.Machine as machine
use Rattle.saw_machine.specs.Orders.{Order}
use Rattle.saw_plan.specs.BatchShapes.{txs_of}
use Rattle.saw_plan.specs.Precedence.{all_txs}
use Rattle.saw_plan.specs.declared.plan.Plan.{Plan}
use Rattle.saw_schedule.specs.Agreement.{difference_by}
use Rattle.saw_schedule.specs.Orders.{order_of}
use Rattle.saw_schedule.specs.declared.ended.Difference.{Difference}
use Rattle.saw_schedule.specs.declared.ended.Finished.{Finished}
use Rattle.saw_schedule.specs.declared.ended.Finished.TheVariants as ends
use Rattle.saw_schedule.specs.declared.ended.Given.{Given}
use Rattle.saw_schedule.specs.declared.ended.Given.TheVariants as gifts
use Rattle.saw_schedule.specs.declared.step.Step.{Step}
use Rattle.saw_schedule.specs.declared.step.Step.TheVariants.{Take, Finish, GiveBack}

pub record History : Type 0 where
  pub batches : List BatchShape
  pub steps : List Step

abbrev pub begun : Plan → History
begun plan = record { batches = plan.batches; steps = [] }

abbrev pub with_step : History → Step → History
with_step h step = record { batches = h.batches; steps = h.steps ++ step ∷ [] }

abbrev pub txs_in : History → List TxShape
txs_in h = all_txs (txs_of h.batches)

abbrev pub sizes_in : History → List ℕ
sizes_in h = map length (txs_of h.batches)

abbrev pub order_in : History → Order
order_in h = order_of (txs_in h)

-- ---- the state

-- the first difference between a result and the task that its slot keeps
abbrev pub difference_in : List TxShape → State → Done → Option Difference
difference_in txs st done = difference_by (slice_get txs done.ticket.index) (task_in (st.slots done.ticket.index)) done

abbrev pub move_of : List TxShape → State → Step → Move
move_of txs st (Take ticket) = machine.Take ticket.index
move_of txs st (Finish done) = machine.Finish done.ticket.index done.ticket.attempt done.outcome (is_none (difference_in txs st done))
move_of txs st (GiveBack ticket) = machine.GiveBack ticket.index ticket.attempt

-- the state after steps
abbrev pub after_steps : List TxShape → State → List Step → State
after_steps txs st [] = st
after_steps txs st (step ∷ steps) = after_steps txs (next (order_of txs) st (move_of txs st step)) steps

-- the machine's moves
abbrev pub moves_of : List TxShape → State → List Step → List Move
moves_of txs st [] = []
moves_of txs st (step ∷ steps) = move_of txs st step ∷ moves_of txs (next (order_of txs) st (move_of txs st step)) steps

abbrev pub start_of : History → State
start_of h = start (order_in h) (sizes_in h)

abbrev pub state_of : History → State
state_of h = after_steps (txs_in h) (start_of h) h.steps

-- ---- steps that may happen

-- that attempt runs
abbrev pub RunsIn : State → Ticket → Type 0
RunsIn st ticket = (task : Task) × Runs st ticket.index ticket.attempt task

abbrev pub MayHappen : List TxShape → State → Step → Type 0
MayHappen txs st (Take ticket) = IsReady (order_of txs) st ticket.index × (ticket.attempt ≡ st.attempts ticket.index)
MayHappen txs st (Finish done) = RunsIn st done.ticket
MayHappen txs st (GiveBack ticket) = RunsIn st ticket

abbrev pub AllMayHappen : List TxShape → State → List Step → Type 0
AllMayHappen txs st [] = ⊤
AllMayHappen txs st (step ∷ steps) = MayHappen txs st step × AllMayHappen txs (next (order_of txs) st (move_of txs st step)) steps

-- each step might happen where it did
abbrev pub IsReplay : History → Type 0
IsReplay h = AllMayHappen (txs_in h) (start_of h) h.steps

-- ---- what calls do

-- the job is that of the machine: its view at each address, and whether a dependency failed
pub record IsTake (old new : History) (job : Job) : Type 0 where
  pub step : new ≡ with_step old (Take job.ticket)
  pub ready : IsReady (order_in old) (state_of old) job.ticket.index
  pub attempt : job.ticket.attempt ≡ (state_of old).attempts job.ticket.index
  pub tx : slice_get (txs_in old) job.ticket.index ≡ Some (arc_value job.tx)
  pub view : (at : List ℕ) → finite.get (layers_of (arc_value job.view)) at ≡ (task_of (order_in old) (state_of old).slots job.ticket.index).view at
  pub failed : job.dependency_failed ≡ (task_of (order_in old) (state_of old).slots job.ticket.index).failed

-- nothing may be taken, and nothing happened
pub record IsNoTake (old new : History) : Type 0 where
  pub same : new ≡ old
  pub none : (i : ℕ) → IsReady (order_in old) (state_of old) i → ⊥

abbrev pub Takes : History → History → Option Job → Type 0
Takes old new None = IsNoTake old new
Takes old new (Some job) = IsTake old new job

-- what ending a job with a result does, by the answer
abbrev pub Finishes : History → History → Done → Finished → Type 0
Finishes old new done ends.Accepted =
    (new ≡ with_step old (Finish done)) × RunsIn (state_of old) done.ticket × (difference_in (txs_in old) (state_of old) done ≡ None)
Finishes old new done ends.Stale = (new ≡ old) × (RunsIn (state_of old) done.ticket → ⊥)
Finishes old new done (ends.Foreign difference) =
    (new ≡ with_step old (Finish done)) × RunsIn (state_of old) done.ticket × (difference_in (txs_in old) (state_of old) done ≡ Some difference)

-- what giving a job back does, by the answer
abbrev pub GivesBack : History → History → Ticket → Given → Type 0
GivesBack old new ticket gifts.Back = (new ≡ with_step old (GiveBack ticket)) × RunsIn (state_of old) ticket
GivesBack old new ticket gifts.Stale = (new ≡ old) × (RunsIn (state_of old) ticket → ⊥)

-- all batches are settled
abbrev pub is_over : History → Bool
is_over h = length (state_of h).rest == 0
