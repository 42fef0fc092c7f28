-- Which transactions may be taken, and what each call of a queue does.
use Rattle.std.specs.Prelude.{◌≡◌, ◌<◌, ◌≤◌, ℕ, true, List, length, get_or, slice_set, Option, Some, None}
use Rattle.saw_ready.specs.Edges.{IsAt, target}
use Rattle.saw_ready.specs.Marks.{NoneInvalid, is_met, is_waiting}
use Rattle.saw_ready.specs.declared.edges.Edges.{Edges}
use Rattle.saw_ready.specs.declared.slot_state.SlotState.{SlotState}
use Rattle.saw_ready.specs.declared.slot_state.SlotState.TheVariants.{Running, Waiting}

-- predecessors, the first number of each one's batch, what each slot holds, and the first unsettled number
pub record Waits : Type 0 where
  pub preds : Edges
  pub starts : List ℕ
  pub marks : List SlotState
  pub first : ℕ

-- k is unsettled and waits, its predecessors are met, and no earlier member of its batch is invalid
pub record MayTake (w : Waits) (k : ℕ) : Type 0 where
  pub unsettled : w.first ≤ k
  pub inside : k < length w.marks
  pub waiting : is_waiting (get_or w.marks k Waiting) ≡ true
  pub met : (p : ℕ) → IsAt w.preds k p → is_met w.marks w.first (target w.preds p) ≡ true
  pub mates : NoneInvalid w.marks (get_or w.starts k 0) k

-- all wait, and nothing is settled
pub record IsNew (preds : Edges) (starts : List ℕ) (w : Waits) : Type 0 where
  pub preds_are : w.preds ≡ preds
  pub starts_are : w.starts ≡ starts
  pub long : length w.marks ≡ length starts
  pub waiting : (i : ℕ) → get_or w.marks i Waiting ≡ Waiting
  pub none_settled : w.first ≡ 0

-- the same with another mark at k
abbrev pub with_mark : Waits → ℕ → SlotState → Waits
with_mark w k m = record { preds = w.preds; starts = w.starts; marks = slice_set w.marks k m; first = w.first }

-- the same with another first unsettled number
abbrev pub with_first : Waits → ℕ → Waits
with_first w first = record { preds = w.preds; starts = w.starts; marks = w.marks; first = first }

-- one that may be taken runs, or none may
abbrev pub IsTaken : Waits → Waits → Option ℕ → Type 0
IsTaken old new None = (new ≡ old) × ((k : ℕ) → MayTake old k → ⊥)
IsTaken old new (Some k) = (new ≡ with_mark old k Running) × MayTake old k
