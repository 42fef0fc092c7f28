-- What the tests of new nodes owe, one place after another.
use Rattle.std.specs.Prelude.{◌≡◌, ◌≢◌, ◌<◌, ⊤, ℕ, List, Some, slice_index_or}
use Rattle.std.specs.Map.{lookup}
use Rattle.std.specs.Str.{bytes_eq}
use Rattle.saw_node.specs.Nodes.{Shape, shape_of}
use Rattle.saw_store.specs.Stores.{Nodes, IsFree}
use Rattle.saw_store.specs.declared.fault.StoreFault.{StoreFault}
use Rattle.saw_store.specs.declared.fault.StoreFault.TheVariants.{Collision, OutOfMemory}
use Rattle.saw_store.specs.declared.new_node.NewNode.{NewNode}

-- two nodes that differ are told
abbrev pub IsToldApart : Shape → Shape → StoreFault → Type 0
IsToldApart first second (Collision kept given) = (shape_of kept ≡ first) × (shape_of given ≡ second) × (first ≢ second)
IsToldApart first second OutOfMemory = ⊤

-- no other node is kept under the hash of the new one at a place
abbrev pub IsFreeAt : (List ℕ → List ℕ) → Nodes → List NewNode → ℕ → Type 0
IsFreeAt hash nodes news at = (other : NewNode) → IsFree hash nodes (shape_of (slice_index_or news at other).node)

-- under the hash of each of the first new nodes the place of one with the same node is noted, and no other place
pub record AreNoted (news : List NewNode) (count : ℕ) (places : List (List ℕ × ℕ)) : Type 0 where
  pub here : (other : NewNode) (hash : List ℕ) (place : ℕ) → lookup (bytes_eq hash) places ≡ Some place
      → (place < count) × ((slice_index_or news place other).hash ≡ hash)
  pub same : (other : NewNode) (at : ℕ) → at < count
      → (place : ℕ) × (lookup (bytes_eq (slice_index_or news at other).hash) places ≡ Some place)
      × (shape_of (slice_index_or news place other).node ≡ shape_of (slice_index_or news at other).node)
