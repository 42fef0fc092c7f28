-- Marks, and what is met.
use Rattle.std.specs.Prelude.{◌≡◌, ◌<◌, ◌≤◌, ℕ, Bool, true, false, ◌||◌, nat_lt, List, get_or}
use Rattle.saw_ready.specs.declared.slot_state.SlotState.{SlotState}
use Rattle.saw_ready.specs.declared.slot_state.SlotState.TheVariants.{Invalid, Valid, Waiting}

-- whether it is to be taken
abbrev pub is_waiting : SlotState → Bool
is_waiting Waiting = true
is_waiting _ = false

-- whether it is a valid result
abbrev pub is_valid : SlotState → Bool
is_valid Valid = true
is_valid _ = false

-- whether it is an invalid result
abbrev pub is_invalid : SlotState → Bool
is_invalid Invalid = true
is_invalid _ = false

-- whether j holds a valid result, or stands before the first unsettled number
abbrev pub is_met : List SlotState → ℕ → ℕ → Bool
is_met marks first j = nat_lt j first || is_valid (get_or marks j Waiting)

-- none from s on and before k holds an invalid result
abbrev pub NoneInvalid : List SlotState → ℕ → ℕ → Type 0
NoneInvalid marks s k = (j : ℕ) → s ≤ j → j < k → is_invalid (get_or marks j Waiting) ≡ false
