-- What the first unsettled batch holds.
use Rattle.std.specs.Prelude.{◌≡◌, ◌<◌, ◌≤◌, ◌+◌, ℕ, true, false, List, get_or}
use Rattle.saw_ready.specs.Marks.{is_invalid, is_valid}
use Rattle.saw_ready.specs.declared.front.Front.{Front}
use Rattle.saw_ready.specs.declared.front.Front.TheVariants.{Broken, Open, Whole}
use Rattle.saw_ready.specs.declared.slot_state.SlotState.{SlotState}
use Rattle.saw_ready.specs.declared.slot_state.SlotState.TheVariants.{Waiting}

-- as many members from `first` on hold a valid result
abbrev pub AreValid : List SlotState → ℕ → ℕ → Type 0
AreValid marks first t = (j : ℕ) → j < t → is_valid (get_or marks (first + j) Waiting) ≡ true

-- what the members from `first` on hold, as many as `size`
abbrev pub IsFrontOf : List SlotState → ℕ → ℕ → Front → Type 0
IsFrontOf marks first size Open =
    (t : ℕ) × (t < size) × AreValid marks first t × (is_valid (get_or marks (first + t) Waiting) ≡ false)
    × (is_invalid (get_or marks (first + t) Waiting) ≡ false)
IsFrontOf marks first size Whole = AreValid marks first size
IsFrontOf marks first size (Broken t) =
    (t < size) × AreValid marks first t × (is_invalid (get_or marks (first + t) Waiting) ≡ true)

-- ---- what is kept, and on the way

-- those from `first` on and before `seen` hold a valid result
pub record AreSeen (marks : List SlotState) (first seen : ℕ) : Type 0 where
  pub onward : first ≤ seen
  pub valid : (j : ℕ) → first ≤ j → j < seen → is_valid (get_or marks j Waiting) ≡ true

-- those from `from` on and before `to` hold a valid result, and `to` doesn't, or it is the end
pub record IsValidTo (marks : List SlotState) (from end to : ℕ) : Type 0 where
  pub onward : from ≤ to
  pub valid : (j : ℕ) → from ≤ j → j < to → is_valid (get_or marks j Waiting) ≡ true
  pub stop : to < end → is_valid (get_or marks to Waiting) ≡ false
