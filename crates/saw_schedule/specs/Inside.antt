-- What a schedule keeps, and when it is that of a state.
use Rattle.std.specs.Prelude.{◌≡◌, ◌<◌, ◌≤◌, ◌+◌, ℕ, suc, false, true, List, [], ◌∷◌, length, Option, Some, None, get_or, slice_get, sum_by, vec_capacity, ⊤, ◌^◌}
use Rattle.std.specs.Arc.{arc_value}
use Rattle.std.specs.FinMap as finite
use Rattle.std.specs.Global.{Global}
use Rattle.std.specs.declared.sync.Arc.{Arc}
use Rattle.saw_messages.specs.declared.outcome.Outcome.{Outcome}
use Rattle.saw_messages.specs.declared.tx.Tx.{Tx}
use Rattle.saw_context.specs.Views.{layers_of}
use Rattle.saw_context.specs.declared.batch_result.BatchResult.{BatchResult}
use Rattle.saw_context.specs.declared.batch_result.BatchResult.TheVariants as results
use Rattle.saw_context.specs.declared.job.Done.{Done}
use Rattle.saw_context.specs.declared.job.Ticket.{Ticket}
use Rattle.saw_context.specs.declared.view.View.{View}
use Rattle.saw_machine.specs.Machine.{Held, Running, State, Task, made}
use Rattle.saw_machine.specs.Orders.{Order}
use Rattle.saw_plan.specs.BatchShapes.{shapes_of}
use Rattle.saw_ready.specs.Edges.{AreEarlier, AreEdges}
use Rattle.saw_ready.specs.Sets.{IsEmpty}
use Rattle.saw_ready.specs.declared.edges.Edges.{Edges}
use Rattle.saw_ready.specs.declared.slot_state.SlotState.{SlotState}
use Rattle.saw_ready.specs.declared.slot_state.SlotState.TheVariants as marks
use Rattle.saw_schedule.specs.Layering.{AreLastsOf}
use Rattle.saw_schedule.specs.LookedUp.{do_read_whole}
use Rattle.saw_schedule.specs.Layout.{ends_of}
use Rattle.saw_schedule.specs.Histories.{History, IsReplay, order_in, sizes_in, state_of, txs_in}
use Rattle.saw_schedule.specs.Shows.{ShowsMachine, is_edge}
use Rattle.saw_schedule.specs.declared.kept.Kept.{Kept}
use Rattle.saw_schedule.specs.declared.lasts.Lasts.{Lasts}
use Rattle.saw_schedule.specs.declared.slots.Slots.{Slots}
use Rattle.saw_schedule.specs.declared.step.Step.{Step}
use Rattle.saw_schedule.specs.declared.step.Step.TheVariants.{Take, Finish, GiveBack}
use Rattle.saw_schedule.specs.declared.verdict.Verdict.{Verdict}
use Rattle.saw_schedule.specs.declared.verdict.Verdict.TheVariants.{Applied, Failed}

-- ---- one transaction

-- its task is that of the slot
pub record IsTaskOf (kept : Kept) (task : Task) : Type 0 where
  pub view : Arc View Global
  pub is : kept.view ≡ Some view
  pub shown : (at : List ℕ) → finite.get (layers_of (arc_value view)) at ≡ task.view at
  pub failed : kept.failed ≡ task.failed

-- a result of transaction i with this outcome stands at a place of the steps
pub record IsResultAt (steps : List Step) (place i : ℕ) (outcome : Outcome) : Type 0 where
  pub done : Done
  pub stands : slice_get steps place ≡ Some (Finish done)
  pub number : done.ticket.index ≡ i
  pub outcome_is : done.outcome ≡ outcome

pub record IsKeptAt (st : State) (steps : List Step) (i : ℕ) (kept : Kept) : Type 0 where
  pub attempts : kept.attempts ≡ st.attempts i
  pub running : (n : ℕ) (task : Task) → st.slots i ≡ Running n task → IsTaskOf kept task × (suc n ≡ kept.attempts)
  pub held : (task : Task) (outcome : Outcome) → st.slots i ≡ Held task outcome → IsResultAt steps kept.place i outcome

-- that attempt runs
pub record IsRunning (slots : Slots) (ticket : Ticket) : Type 0 where
  pub kept : Kept
  pub stands : slice_get slots.kept.items ticket.index ≡ Some kept
  pub mark : get_or slots.queue.marks ticket.index marks.Waiting ≡ marks.Running
  pub attempt : kept.attempts ≡ suc ticket.attempt

-- as often taken, with its result at a place
pub record IsMoved (old new : Kept) (place : ℕ) : Type 0 where
  pub attempts : new.attempts ≡ old.attempts
  pub place_is : new.place ≡ place

abbrev pub IsPlacedAt : List Kept → List Kept → ℕ → ℕ → Type 0
IsPlacedAt old new k place = (one before : Kept) → slice_get new k ≡ Some one → slice_get old k ≡ Some before → IsMoved before one place

-- ---- batches

-- the outcomes that the slots from n on hold
abbrev pub HoldOutcomes : State → ℕ → List Outcome → Type 0
HoldOutcomes st n [] = ⊤
HoldOutcomes st n (outcome ∷ outcomes) = ((task : Task) × (st.slots n ≡ Held task outcome)) × HoldOutcomes st (suc n) outcomes

-- the verdict is that of the result of a batch whose transactions are numbered from n on
abbrev pub IsVerdictOf : State → ℕ → ℕ → BatchResult → Verdict → Type 0
IsVerdictOf st n size (results.Applied outcomes) verdict = (verdict ≡ Applied) × (length outcomes ≡ size) × HoldOutcomes st n outcomes
IsVerdictOf st n size (results.Failed t reason) verdict = verdict ≡ Failed t reason

-- the same of the settled batches, of these sizes and numbered from n on; behind them the rest begins
abbrev pub AreVerdictsOf : State → ℕ → List ℕ → List BatchResult → List Verdict → Type 0
AreVerdictsOf st n sizes [] [] = (n ≡ st.first) × (sizes ≡ st.rest)
AreVerdictsOf st n sizes [] (verdict ∷ verdicts) = ⊥
AreVerdictsOf st n sizes (result ∷ results) [] = ⊥
AreVerdictsOf st n [] (result ∷ results) (verdict ∷ verdicts) = ⊥
AreVerdictsOf st n (size ∷ sizes) (result ∷ results) (verdict ∷ verdicts) =
    IsVerdictOf st n size result verdict × AreVerdictsOf st (n + size) sizes results verdicts

abbrev pub one_if_running : SlotState → ℕ
one_if_running marks.Waiting = 0
one_if_running marks.Running = 1
one_if_running marks.Valid = 0
one_if_running marks.Invalid = 0
one_if_running marks.Closed = 0

abbrev pub running_in : List SlotState → ℕ
running_in all = sum_by one_if_running all

-- the slots are those of a state; `sizes` are those of all batches
pub record AreSlotsOf (order : Order) (sizes : List ℕ) (st : State) (steps : List Step) (slots : Slots) : Type 0 where
  pub shows : ShowsMachine order st slots.queue
  pub ends : slots.ends.items ≡ ends_of 0 sizes
  pub hits_long : length slots.hits ≡ length slots.queue.marks
  pub idle : IsEmpty slots.hits
  pub kept_long : length slots.kept.items ≡ length slots.queue.marks
  pub kept : (i : ℕ) (kept : Kept) → slice_get slots.kept.items i ≡ Some kept → IsKeptAt st steps i kept
  pub verdicts : AreVerdictsOf st 0 sizes st.results slots.verdicts.items
  pub room : length sizes ≤ vec_capacity slots.verdicts
  pub counted : running_in slots.queue.marks ≤ slots.running
  pub few : length slots.queue.marks < 2 ^ 32

-- ---- the whole

-- of two held results that change one address the later transaction's came later
abbrev pub DoPlacesRise : State → List Kept → Type 0
DoPlacesRise st kept = (i j : ℕ) (one other : Kept) (at : List ℕ) (v w : Option (List ℕ)) → i < j
    → made (st.slots i) at ≡ Some v → made (st.slots j) at ≡ Some w
    → slice_get kept i ≡ Some one → slice_get kept j ≡ Some other → one.place < other.place

-- the number of each transaction that i names, before it, stands among its own
abbrev pub AreNamesOf : Order → Edges → Type 0
AreNamesOf order named = (i j : ℕ) → j < i → is_edge named j i ≡ order.names i j

-- what a schedule keeps is that of its plan and steps
pub record IsScheduleOf (h : History) (txs : List (Arc Tx Global)) (named : Edges) (slots : Slots) (lasts : Lasts) (capacity : ℕ) : Type 0 where
  pub txs_are : shapes_of txs ≡ txs_in h
  pub counted : length txs < 2 ^ 32
  pub replay : IsReplay h
  pub long : length named.from.items ≡ length txs + 1
  pub edges : AreEdges named (length txs)
  pub earlier : AreEarlier named (length txs)
  pub names : AreNamesOf (order_in h) named
  pub slots_are : AreSlotsOf (order_in h) (sizes_in h) (state_of h) h.steps slots
  pub lasts_are : AreLastsOf h.steps slots lasts
  pub whole : lasts.wide ≡ false → do_read_whole txs ≡ true
  pub rising : DoPlacesRise (state_of h) slots.kept.items
  pub room : length h.steps + slots.running ≤ capacity
  pub few : slots.running ≤ length h.steps

-- ---- results

-- the outcome of the result that a step brings
abbrev pub outcome_in : Step → Option Outcome
outcome_in (Take ticket) = None
outcome_in (Finish done) = Some done.outcome
outcome_in (GiveBack ticket) = None

-- each transaction from n on, as many as the outcomes, has its outcome at its place among those of the steps
abbrev pub AreOutcomesAt : List Kept → List (Option Outcome) → ℕ → List Outcome → Type 0
AreOutcomesAt kept all n [] = ⊤
AreOutcomesAt kept all n (outcome ∷ outcomes) =
    ((one : Kept) × (slice_get kept n ≡ Some one) × (slice_get all one.place ≡ Some (Some outcome))) × AreOutcomesAt kept all (suc n) outcomes
