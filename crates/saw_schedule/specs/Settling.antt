-- Settling from a state on.
use Rattle.std.specs.Prelude.{◌≡◌, ◌<◌, ℕ, Bool, true, List, get_or}
use Rattle.saw_machine.specs.Machine.{State, is_closed, settle}
use Rattle.saw_machine.specs.Orders.{Order}
use Rattle.saw_ready.specs.Marks.{is_valid}
use Rattle.saw_ready.specs.Undone.{AreNoted, IsIdle}
use Rattle.saw_ready.specs.declared.slot_state.SlotState.{SlotState}
use Rattle.saw_ready.specs.declared.slot_state.SlotState.TheVariants.{Waiting}
use Rattle.saw_schedule.specs.Inside.{AreSlotsOf}
use Rattle.saw_schedule.specs.declared.slots.Slots.{Slots}
use Rattle.saw_schedule.specs.declared.step.Step.{Step}

-- the state once all batches are settled that have a result
abbrev pub settled : Order → State → State
settled order st = settle order st.slots st.attempts st.results st.first st.rest

-- what is closed is settled
abbrev pub IsOpen : State → Type 0
IsOpen st = (j : ℕ) → is_closed (st.slots j) ≡ true → j < st.first

-- the slots are those of a state from which settling comes to the same
pub record GoesOnFrom (order : Order) (sizes : List ℕ) (st : State) (steps : List Step) (slots : Slots) : Type 0 where
  pub next : State
  pub same : settled order st ≡ settled order next
  pub open_ : IsOpen next
  pub are : AreSlotsOf order sizes next steps slots

-- the slots are those of some state
pub record HaveState (steps : List Step) (slots : Slots) : Type 0 where
  pub order : Order
  pub sizes : List ℕ
  pub state : State
  pub open_ : IsOpen state
  pub are : AreSlotsOf order sizes state steps slots

-- marks from which others came while batches were settled: of those that held a valid result and do no more each is noted
pub record LeavesUndone (old new : List SlotState) (undone undone' : List Bool) : Type 0 where
  pub noted : AreNoted old new undone undone'
  pub valid : (i : ℕ) → is_valid (get_or new i Waiting) ≡ true → is_valid (get_or old i Waiting) ≡ true
  pub idle : (i : ℕ) → IsIdle (get_or old i Waiting) → IsIdle (get_or new i Waiting)
