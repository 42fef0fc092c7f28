-- What stands on a failed batch.
use Rattle.std.specs.Prelude.{◌≡◌, ◌<◌, ◌≤◌, ◌⊎◌, ℕ, Bool, true, false, List, length, get_or}
use Rattle.saw_ready.specs.Edges.{IsAt, begin, target}
use Rattle.saw_ready.specs.declared.edges.Edges.{Edges}

-- i is flagged
abbrev pub IsIn : List Bool → ℕ → Type 0
IsIn flags i = get_or flags i false ≡ true

-- a member of the batch, or one that stands on it
abbrev pub IsSource : ℕ → ℕ → List Bool → ℕ → Type 0
IsSource first end hits j = ((first ≤ j) × (j < end)) ⊎ IsIn hits j

-- exactly those after the batch of which a predecessor is a member of it, or one of them
pub record AreHits (preds : Edges) (first end : ℕ) (hits : List Bool) : Type 0 where
  pub late : (i : ℕ) → IsIn hits i → (end ≤ i) × (i < length hits)
  pub cause : (i : ℕ) → IsIn hits i → (p : ℕ) × IsAt preds i p × IsSource first end hits (target preds p)
  pub all : (i p : ℕ) → end ≤ i → i < length hits → IsAt preds i p → IsSource first end hits (target preds p)
      → IsIn hits i

-- ---- on the way

-- the successors of m from `end` on, at places before `to`, were added
pub record IsSpread (succs : Edges) (end m to : ℕ) (old new : List Bool) : Type 0 where
  pub long : length new ≡ length old
  pub kept : (i : ℕ) → IsIn old i → IsIn new i
  pub new_ones : (i : ℕ) → IsIn new i
      → IsIn old i ⊎ ((end ≤ i) × (i < length old) × ((q : ℕ) × IsAt succs m q × (target succs q ≡ i)))
  pub all : (q : ℕ) → begin succs m ≤ q → q < to → end ≤ target succs q → IsIn new (target succs q)

-- members below m, and those that stand on the batch below `from`, were followed
pub record AreHitsTo (preds : Edges) (first end m from : ℕ) (hits : List Bool) : Type 0 where
  pub late : (i : ℕ) → IsIn hits i → (end ≤ i) × (i < length hits)
  pub cause : (i : ℕ) → IsIn hits i → (p : ℕ) × IsAt preds i p × IsSource first end hits (target preds p)
  pub all : (i p : ℕ) → end ≤ i → i < length hits → IsAt preds i p
      → ((first ≤ target preds p) × (target preds p < m)) ⊎ ((target preds p < from) × IsIn hits (target preds p))
      → IsIn hits i
