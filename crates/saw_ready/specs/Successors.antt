-- How often numbers stand among edges, and edges that are half turned.
use Rattle.std.specs.Prelude.{◌≡◌, ◌<◌, ◌≤◌, ◌+◌, ◌-◌, ◌⊎◌, ℕ, zero, suc, if◌then◌else◌, ◌==◌, nat_lt, List, length, get_or}
use Rattle.saw_ready.specs.Edges.{IsAt, begin, target}
use Rattle.saw_ready.specs.declared.edges.Edges.{Edges}

-- how often j stands at as many places from p on
unfoldable pub times : Edges → ℕ → ℕ → ℕ → ℕ
times e j p zero = 0
times e j p (suc m) = (if target e p == j then 1 else 0) + times e j (p + 1) m

-- how many numbers below j stand at as many places from p on
unfoldable pub below : Edges → ℕ → ℕ → ℕ → ℕ
below e j p zero = 0
below e j p (suc m) = (if nat_lt (target e p) j then 1 else 0) + below e j (p + 1) m

-- how often j is a predecessor of one of n numbers, at the places from p on
abbrev pub left : Edges → ℕ → ℕ → ℕ → ℕ
left e n j p = times e j p (begin e n - p)

-- where the successors of j begin: how often numbers below it are predecessors
abbrev pub start_of : Edges → ℕ → ℕ → ℕ
start_of e n j = below e j (begin e 0) (begin e n - begin e 0)

-- how often each number is a predecessor
abbrev pub AreCounts : Edges → List ℕ → Type 0
AreCounts e counts = (j : ℕ) → j < length counts → get_or counts j 0 ≡ left e (length counts) j (begin e 0)

-- the edges of numbers before k, and those of k before the place p, stand before the next place of their targets
pub record AreFilled (preds : Edges) (n k p : ℕ) (next to : List ℕ) : Type 0 where
  pub long : length next ≡ n
  pub wide : start_of preds n n ≤ length to
  pub low : (j : ℕ) → j < n → start_of preds n j ≤ get_or next j 0
  pub rest : (j : ℕ) → j < n → get_or next j 0 + left preds n j p ≡ start_of preds n (j + 1)
  pub backed : (j q : ℕ) → j < n → start_of preds n j ≤ q → q < get_or next j 0
      → (get_or to q 0 < n) × ((r : ℕ) × IsAt preds (get_or to q 0) r × (target preds r ≡ j))
  pub listed : (i r : ℕ) → i < n → IsAt preds i r → (i < k) ⊎ ((i ≡ k) × (r < p))
      → (q : ℕ) × (start_of preds n (target preds r) ≤ q) × (q < get_or next (target preds r) 0) × (get_or to q 0 ≡ i)
