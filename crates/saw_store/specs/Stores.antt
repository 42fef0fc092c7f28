-- Nodes under their hashes.
use Rattle.std.specs.Prelude.{◌≡◌, ◌≢◌, ⊤, ℕ, List, map, Option, Some, IfSome}
use Rattle.std.specs.Option.{option_map}
use Rattle.std.specs.Ordering.{nat_cmp}
use Rattle.std.specs.Cmp.Lexicographic.{slice_cmp}
use Rattle.std.specs.Coded.{Coded, coded_list, coded_ℕ, coded×, coded_option}
use Rattle.std.specs.FinMap as finite
use Rattle.saw_node.specs.Nodes.{Shape, encoding_of, shape_of}
use Rattle.saw_node.specs.Contents.{Node}
use Rattle.saw_store.specs.declared.fault.StoreFault.{StoreFault}
use Rattle.saw_store.specs.declared.fault.StoreFault.TheVariants.{Collision, OutOfMemory}

-- a node's value and its children, by their bytes, with their hashes
abbrev pub Kept : Type 0
Kept = Option (List ℕ) × List (ℕ × List ℕ)

-- the node of each hash
abbrev pub Nodes : Type 0
Nodes = finite.FinMap (slice_cmp nat_cmp) Kept

abbrev pub nodes_code : Coded Nodes
nodes_code = finite.code (coded_list coded_ℕ) (coded× (coded_option (coded_list coded_ℕ)) (coded_list (coded× coded_ℕ (coded_list coded_ℕ))))

abbrev pub kept_of : Shape → Kept
kept_of shape = (shape.value, shape.children)

abbrev pub shape_from : Kept → Shape
shape_from kept = record { value = kept.0; children = kept.1 }

-- the node under a hash, if one is kept
abbrev pub kept_at : Nodes → List ℕ → Option Shape
kept_at nodes h = option_map shape_from (finite.get nodes h)

-- with one more node, under its hash
abbrev pub with_node : (List ℕ → List ℕ) → Nodes → Shape → Nodes
with_node hash nodes shape = finite.insert nodes (hash (encoding_of shape)) (kept_of shape)

-- what is kept, as a finite map
abbrev pub shown : List (List ℕ × Node) → Nodes
shown kept = finite.from_entries (map (λ e. (e.0, kept_of (shape_of e.1))) kept)

-- another node is kept under the hash of this one
abbrev pub IsClash : (List ℕ → List ℕ) → Nodes → Node → StoreFault → Type 0
IsClash hash nodes node (Collision kept given) =
    (given ≡ node) × (shape_of kept ≢ shape_of node) × (kept_at nodes (hash (encoding_of (shape_of node))) ≡ Some (shape_of kept))
IsClash hash nodes node OutOfMemory = ⊤

-- no other node is kept under the hash of this one
abbrev pub IsFree : (List ℕ → List ℕ) → Nodes → Shape → Type 0
IsFree hash nodes shape = IfSome (kept_at nodes (hash (encoding_of shape))) (λ kept. kept ≡ shape)
