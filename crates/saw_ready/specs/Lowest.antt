-- The lowest invalid member of each batch.
use Rattle.std.specs.Prelude.{◌≡◌, ◌<◌, ◌≤◌, ℕ, true, false, List, length, get_or}
use Rattle.saw_ready.specs.Marks.{is_invalid}
use Rattle.saw_ready.specs.declared.slot_state.SlotState.{SlotState}
use Rattle.saw_ready.specs.declared.slot_state.SlotState.TheVariants.{Waiting}

-- l is the least member of the batch from s on that holds an invalid result, or no number at all
pub record IsLowest (starts : List ℕ) (marks : List SlotState) (s l : ℕ) : Type 0 where
  pub none : (j : ℕ) → j < length marks → get_or starts j 0 ≡ s → j < l → is_invalid (get_or marks j Waiting) ≡ false
  pub here : l < length marks → (get_or starts l 0 ≡ s) × (is_invalid (get_or marks l Waiting) ≡ true)

-- the batch of each unsettled one has it
abbrev pub AreLowest : List ℕ → List SlotState → ℕ → List ℕ → Type 0
AreLowest starts marks first lowest =
    (k : ℕ) → first ≤ k → k < length marks
    → IsLowest starts marks (get_or starts k 0) (get_or lowest (get_or starts k 0) 0)

-- l is the least member behind k of its batch that holds an invalid result, or no number at all
pub record IsNextInvalid (starts : List ℕ) (marks : List SlotState) (k l : ℕ) : Type 0 where
  pub none : (j : ℕ) → k < j → j < length marks → get_or starts j 0 ≡ get_or starts k 0 → j < l
      → is_invalid (get_or marks j Waiting) ≡ false
  pub here : l < length marks → (get_or starts l 0 ≡ get_or starts k 0) × (is_invalid (get_or marks l Waiting) ≡ true)
  pub behind : k < l
