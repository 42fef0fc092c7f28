-- Entries that tell what a map has below a place.
use Rattle.std.specs.Prelude.{◌≡◌, ◌⊎◌, ◌<◌, ℕ, zero, suc, true, List, [], ◌∷◌, ◌++◌}
use Rattle.std.specs.FinMap as finite
use Rattle.saw_address.specs.Maps.{Entries, StateMap}
use Rattle.saw_node.specs.Nodes.{encoding_of}
use Rattle.saw_node.specs.Trees.{has_under, next_bytes, node_at, root_of_map}
use Rattle.saw_runs.specs.Places.{AreAddressed}
use Rattle.saw_runs.specs.Entries.{Entry}
use Rattle.saw_runs.specs.Entries.Entry.{OfNode, OfRun}

module _ (hash : List ℕ → List ℕ) (Kept : List ℕ → Entry → Type 0) (es : Entries) where
  -- the hash of the node at a place, so many levels above the values
  abbrev pub hash_at : ℕ → List ℕ → List ℕ
  hash_at levels place = hash (encoding_of (node_at hash es levels place))

  -- A run tells what the map has below a place: down its bytes there is one child each, and the node at its end is kept.
  -- Below each child of that node all is told: by the node that is kept under the child's hash, or by a run that is.
  unfoldable pub IsTold : ℕ → List ℕ → List ℕ → List ℕ → Type 0
  IsTold zero place [] bottom = (bottom ≡ hash_at zero place) × Kept bottom (OfNode (node_at hash es zero place))
  IsTold zero place (c ∷ path) bottom = ⊥
  IsTold (suc levels) place [] bottom =
      (bottom ≡ hash_at (suc levels) place) × Kept bottom (OfNode (node_at hash es (suc levels) place))
      × ((b : ℕ) → b < 256 → has_under es (place ++ b ∷ []) ≡ true
      → IsTold levels (place ++ b ∷ []) [] (hash_at levels (place ++ b ∷ []))
      ⊎ ((c : ℕ) × (path : List ℕ) × (bottom : List ℕ)
      × Kept (hash_at levels (place ++ b ∷ [])) (OfRun (c ∷ path) bottom)
      × IsTold levels (place ++ b ∷ []) (c ∷ path) bottom))
  IsTold (suc levels) place (c ∷ path) bottom =
      (next_bytes es place ≡ c ∷ []) × IsTold levels (place ++ c ∷ []) path bottom

  -- a hash tells it: a node is kept under it, or a run
  abbrev pub IsToldBy : ℕ → List ℕ → List ℕ → Type 0
  IsToldBy levels place h =
      IsTold levels place [] h
      ⊎ ((c : ℕ) × (path : List ℕ) × (bottom : List ℕ) × Kept h (OfRun (c ∷ path) bottom)
      × IsTold levels place (c ∷ path) bottom)

-- the root is that of the map, all of which is told by what is kept
pub record IsRootOf (hash : List ℕ → List ℕ) (Kept : List ℕ → Entry → Type 0) (m : StateMap)
    (root : List ℕ) : Type 0 where
  pub named : root ≡ root_of_map hash m
  pub told : IsToldBy hash Kept (finite.entries m) 35 [] root
  pub are : AreAddressed m
