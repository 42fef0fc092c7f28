-- What each one waits for first of all, and who is flagged for it.
use Rattle.std.specs.Prelude.{◌≡◌, ◌<◌, ◌≤◌, ◌⊎◌, ℕ, Bool, true, false, List, length, get_or}
use Rattle.saw_ready.specs.Edges.{begin, finish, target}
use Rattle.saw_ready.specs.Hits.{IsIn}
use Rattle.saw_ready.specs.Marks.{NoneInvalid, is_met, is_waiting}
use Rattle.saw_ready.specs.declared.edges.Edges.{Edges}
use Rattle.saw_ready.specs.declared.slot_state.SlotState.{SlotState}
use Rattle.saw_ready.specs.declared.slot_state.SlotState.TheVariants.{Waiting}

-- the predecessors of k at places below c are met
abbrev pub IsMetTo : Edges → List SlotState → ℕ → ℕ → ℕ → Type 0
IsMetTo e marks first k c = (p : ℕ) → begin e k ≤ p → p < c → is_met marks first (target e p) ≡ true

-- c is the first place of k whose predecessor isn't met, or the end
pub record IsCursor (e : Edges) (marks : List SlotState) (first k c : ℕ) : Type 0 where
  pub low : begin e k ≤ c
  pub high : c ≤ finish e k
  pub met : IsMetTo e marks first k c
  pub stop : c < finish e k → is_met marks first (target e c) ≡ false

-- each unsettled one has its cursor
abbrev pub AreCursors : Edges → List SlotState → ℕ → List ℕ → Type 0
AreCursors preds marks first cursors =
    (k : ℕ) → first ≤ k → k < length marks → IsCursor preds marks first k (get_or cursors k 0)

-- k waits, and its cursor stands at the end: for no predecessor
abbrev pub IsDue : Edges → List SlotState → List ℕ → ℕ → Type 0
IsDue preds marks cursors k = (is_waiting (get_or marks k Waiting) ≡ true) × (get_or cursors k 0 ≡ finish preds k)

-- whatever may be taken is flagged
abbrev pub AreFlagged : Edges → List ℕ → List SlotState → ℕ → List ℕ → List Bool → Type 0
AreFlagged preds starts marks first cursors flags =
    (k : ℕ) → first ≤ k → k < length marks → IsDue preds marks cursors k → NoneInvalid marks (get_or starts k 0) k
    → IsIn flags k

-- a flag is set where it has to be, and none is taken away
pub record IsRefreshed (must : Type 0) (k : ℕ) (old new : List Bool) : Type 0 where
  pub long : length new ≡ length old
  pub at : must → IsIn new k
  pub others : (i : ℕ) → IsIn old i → IsIn new i

-- ---- while what waits for j goes on

-- k stands at a place of j from q on, as a successor
abbrev pub IsLater : Edges → ℕ → ℕ → ℕ → Type 0
IsLater succs j q k = (r : ℕ) × (q ≤ r) × (r < finish succs j) × (target succs r ≡ k)

-- the cursor of k, where k may still wait for j, which is met, and stands among the successors of j from q on
pub record IsHalfCursor (preds succs : Edges) (marks : List SlotState) (first j q k c : ℕ) : Type 0 where
  pub low : begin preds k ≤ c
  pub high : c ≤ finish preds k
  pub met : IsMetTo preds marks first k c
  pub stop : c < finish preds k
      → (is_met marks first (target preds c) ≡ false) ⊎ ((target preds c ≡ j) × IsLater succs j q k)

-- each unsettled one has such a cursor
abbrev pub AreHalfCursors : Edges → Edges → List SlotState → ℕ → ℕ → ℕ → List ℕ → Type 0
AreHalfCursors preds succs marks first j q cursors =
    (k : ℕ) → first ≤ k → k < length marks → IsHalfCursor preds succs marks first j q k (get_or cursors k 0)
