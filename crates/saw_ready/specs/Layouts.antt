-- The starts of batches, and what never changes in a queue.
use Rattle.std.specs.Prelude.{◌≡◌, ◌<◌, ◌≤◌, ℕ, List, length, get_or}
use Rattle.saw_ready.specs.Edges.{AreEarlier, AreEdges, AreTurned}
use Rattle.saw_ready.specs.declared.edges.Edges.{Edges}
use Rattle.saw_ready.specs.declared.layout.Layout.{Layout}

-- the starts of later ones are no less
abbrev pub AreRising : List ℕ → Type 0
AreRising starts = (i j : ℕ) → i ≤ j → j < length starts → get_or starts i 0 ≤ get_or starts j 0

-- the first number of each one's batch: later ones are no less, none is later than its member, each is its own
pub record AreStarts (starts : List ℕ) : Type 0 where
  pub rising : AreRising starts
  pub low : (i : ℕ) → i < length starts → get_or starts i 0 ≤ i
  pub own : (i : ℕ) → i < length starts → get_or starts (get_or starts i 0) 0 ≡ get_or starts i 0

-- the edges of n numbers in both directions
pub record AreBoth (preds succs : Edges) (n : ℕ) : Type 0 where
  pub back : AreEdges preds n
  pub earlier : AreEarlier preds n
  pub turned : AreTurned preds succs n

-- the edges of n numbers in both directions, and the starts of their batches
pub record IsLayout (layout : Layout) (n : ℕ) : Type 0 where
  pub both : AreBoth layout.preds layout.succs n
  pub all_start : length layout.starts.items ≡ n
  pub starts_are : AreStarts layout.starts.items
