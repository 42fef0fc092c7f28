-- The pieces of a map: its nodes that have not one child, and the runs from the root or a child of such a node down to the
-- next one.
use Rattle.std.specs.Prelude.{◌≡◌, ◌≢◌, ◌⊎◌, ◌+◌, ℕ, zero, suc, true, List, [], ◌∷◌, ◌++◌, length}
use Rattle.saw_address.specs.Maps.{Entries}
use Rattle.saw_node.specs.Nodes.{encoding_of}
use Rattle.saw_node.specs.Trees.{has_under, next_bytes, node_at}
use Rattle.saw_runs.specs.Entries.{Entry}
use Rattle.saw_runs.specs.Entries.Entry.{OfNode, OfRun}

module _ (hash : List ℕ → List ℕ) (es : Entries) where
  -- a node that has not one child
  abbrev pub IsWholeAt : ℕ → List ℕ → Type 0
  IsWholeAt levels place = length (node_at hash es levels place).children ≢ 1

  -- down from a place there is one child each, up to a node that has not one
  unfoldable pub Leads : ℕ → List ℕ → List ℕ → List ℕ → Type 0
  Leads zero place [] bottom = (bottom ≡ hash (encoding_of (node_at hash es zero place))) × IsWholeAt zero place
  Leads zero place (c ∷ path) bottom = ⊥
  Leads (suc levels) place [] bottom = (bottom ≡ hash (encoding_of (node_at hash es (suc levels) place))) × IsWholeAt (suc levels) place
  Leads (suc levels) place (c ∷ path) bottom = (next_bytes es place ≡ c ∷ []) × Leads levels (place ++ c ∷ []) path bottom

  -- the root, or a child of a node that has not one
  abbrev pub IsTopPlace : List ℕ → Type 0
  IsTopPlace place =
      (place ≡ []) ⊎ ((front : List ℕ) × (b : ℕ) × (place ≡ front ++ b ∷ []) × (length (next_bytes es front) ≢ 1))

  abbrev pub StandsAt : ℕ → List ℕ → Entry → Type 0
  StandsAt levels place (OfNode shape) =
      ((place ≡ []) ⊎ (has_under es place ≡ true)) × (shape ≡ node_at hash es levels place) × IsWholeAt levels place
  StandsAt levels place (OfRun path bottom) =
      (has_under es place ≡ true) × (path ≢ []) × IsTopPlace place × Leads levels place path bottom

-- a piece of the map
pub record IsPieceOf (hash : List ℕ → List ℕ) (es : Entries) (entry : Entry) : Type 0 where
  pub levels : ℕ
  pub place : List ℕ
  pub deep : levels + length place ≡ 35
  pub is : StandsAt hash es levels place entry
