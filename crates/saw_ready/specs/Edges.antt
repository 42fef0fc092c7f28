-- Edges as flat lists, in one direction and in both.
use Rattle.std.specs.Prelude.{◌≡◌, ◌<◌, ◌≤◌, ◌+◌, ℕ, length, get_or}
use Rattle.saw_ready.specs.declared.edges.Edges.{Edges}

-- the first place of k
abbrev pub begin : Edges → ℕ → ℕ
begin e k = get_or e.from.items k 0

-- where the places of k end
abbrev pub finish : Edges → ℕ → ℕ
finish e k = get_or e.from.items (k + 1) 0

-- what stands at a place
abbrev pub target : Edges → ℕ → ℕ
target e p = get_or e.to.items p 0

-- p is a place of k
abbrev pub IsAt : Edges → ℕ → ℕ → Type 0
IsAt e k p = (begin e k ≤ p) × (p < finish e k)

-- the places of each number below n are places, and what stands there is below n
pub record AreEdges (e : Edges) (n : ℕ) : Type 0 where
  pub long : length e.from.items ≡ n + 1
  pub rising : (k : ℕ) → k < n → begin e k ≤ finish e k
  pub within : (k : ℕ) → k < n → finish e k ≤ length e.to.items
  pub below : (k p : ℕ) → k < n → IsAt e k p → target e p < n

-- what belongs to a number is less than it
abbrev pub AreEarlier : Edges → ℕ → Type 0
AreEarlier e n = (k p : ℕ) → k < n → IsAt e k p → target e p < k

-- one list of edges is the other the other way round: each edge has its place in both
pub record AreTurned (preds succs : Edges) (n : ℕ) : Type 0 where
  pub forth : AreEdges succs n
  pub backed : (j q : ℕ) → j < n → IsAt succs j q → (p : ℕ) × IsAt preds (target succs q) p × (target preds p ≡ j)
  pub listed : (k p : ℕ) → k < n → IsAt preds k p → (q : ℕ) × IsAt succs (target preds p) q × (target succs q ≡ k)
