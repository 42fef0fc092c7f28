-- What loses a valid result by a failure.
use Rattle.std.specs.Prelude.{◌≡◌, ◌<◌, ◌≤◌, ◌⊎◌, ℕ, Bool, true, List, length, get_or}
use Rattle.saw_ready.specs.Hits.{IsIn}
use Rattle.saw_ready.specs.Marks.{is_valid}
use Rattle.saw_ready.specs.declared.slot_state.SlotState.{SlotState}
use Rattle.saw_ready.specs.declared.slot_state.SlotState.TheVariants.{Closed, Waiting}

-- whether it is to be run, or its batch has failed
abbrev pub IsIdle : SlotState → Type 0
IsIdle mark = (mark ≡ Waiting) ⊎ (mark ≡ Closed)

-- exactly whatever held a valid result and does no more was added
pub record AreNoted (old new : List SlotState) (undone undone' : List Bool) : Type 0 where
  pub long : length undone' ≡ length undone
  pub kept : (i : ℕ) → IsIn undone i → IsIn undone' i
  pub noted : (i : ℕ) → is_valid (get_or old i Waiting) ≡ true
      → (is_valid (get_or new i Waiting) ≡ true) ⊎ IsIn undone' i
  pub only : (i : ℕ) → IsIn undone' i
      → IsIn undone i ⊎ ((is_valid (get_or old i Waiting) ≡ true) × IsIdle (get_or new i Waiting))

-- ---- on the way

-- members that hold a valid result were added, and no others
pub record AreMembersNoted (marks : List SlotState) (first end : ℕ) (undone undone' : List Bool) : Type 0 where
  pub long : length undone' ≡ length undone
  pub kept : (i : ℕ) → IsIn undone i → IsIn undone' i
  pub noted : (i : ℕ) → first ≤ i → i < end → is_valid (get_or marks i Waiting) ≡ true → IsIn undone' i
  pub only : (i : ℕ) → IsIn undone' i
      → IsIn undone i ⊎ ((first ≤ i) × (i < end) × (is_valid (get_or marks i Waiting) ≡ true))

-- hits before `to` that hold a valid result were added, and none but hits that hold one
pub record AreHitsNoted (marks : List SlotState) (hits : List Bool) (to : ℕ) (undone undone' : List Bool) : Type 0 where
  pub long : length undone' ≡ length undone
  pub kept : (i : ℕ) → IsIn undone i → IsIn undone' i
  pub noted : (i : ℕ) → IsIn hits i → i < to → is_valid (get_or marks i Waiting) ≡ true → IsIn undone' i
  pub only : (i : ℕ) → IsIn undone' i
      → IsIn undone i ⊎ (IsIn hits i × (is_valid (get_or marks i Waiting) ≡ true))
