-- Nodes that are not kept yet.
use Rattle.std.specs.Prelude.{◌≡◌, ◌≢◌, ◌⊎◌, ⊤, ℕ, List, [], ◌∷◌, Option, Some, None, if◌then◌else◌}
use Rattle.std.specs.Option.{option_or}
use Rattle.std.specs.Str.{bytes_eq}
use Rattle.std.specs.List.{AllByRecursion}
use Rattle.saw_node.specs.Nodes.{Shape, encoding_of, shape_of}
use Rattle.saw_store.specs.Stores.{Nodes, kept_at, with_node}
use Rattle.saw_store.specs.declared.fault.StoreFault.{StoreFault}
use Rattle.saw_store.specs.declared.fault.StoreFault.TheVariants.{Collision, OutOfMemory}
use Rattle.saw_store.specs.declared.new_node.NewNode.{NewNode}

-- the node is among these
abbrev pub IsIn : List NewNode → Shape → Type 0
IsIn [] shape = ⊥
IsIn (new ∷ others) shape = (shape_of new.node ≡ shape) ⊎ IsIn others shape

-- each has its hash beside it
abbrev pub AreNamed : (List ℕ → List ℕ) → List NewNode → Type 0
AreNamed hash news = AllByRecursion (λ new. new.hash ≡ hash (encoding_of (shape_of new.node))) news

-- the node is kept under its hash
abbrev pub IsKept : (List ℕ → List ℕ) → Nodes → Shape → Type 0
IsKept hash nodes shape = kept_at nodes (hash (encoding_of shape)) ≡ Some shape

-- the node is kept, or is among these
abbrev pub IsKeptOr : (List ℕ → List ℕ) → Nodes → List NewNode → Shape → Type 0
IsKeptOr hash nodes news shape = IsKept hash nodes shape ⊎ IsIn news shape

-- every node is kept under its own hash
abbrev pub AreUnderTheirs : (List ℕ → List ℕ) → Nodes → Type 0
AreUnderTheirs hash nodes = (h : List ℕ) (shape : Shape) → kept_at nodes h ≡ Some shape
    → h ≡ hash (encoding_of shape)

-- with these nodes, each under its hash
abbrev pub with_all : (List ℕ → List ℕ) → Nodes → List NewNode → Nodes
with_all hash nodes [] = nodes
with_all hash nodes (new ∷ others) = with_all hash (with_node hash nodes (shape_of new.node)) others

-- of these nodes the last that has the hash
abbrev pub last_under : (List ℕ → List ℕ) → List NewNode → List ℕ → Option Shape
last_under hash [] h = None
last_under hash (new ∷ others) h =
    option_or (last_under hash others h) (if bytes_eq h (hash (encoding_of (shape_of new.node))) then Some (shape_of new.node) else None)

-- no two different nodes of those that are kept and these have one hash
abbrev pub AreClear : (List ℕ → List ℕ) → Nodes → List NewNode → Type 0
AreClear hash nodes news =
    (s t : Shape) → IsKeptOr hash nodes news s → IsKeptOr hash nodes news t
    → hash (encoding_of s) ≡ hash (encoding_of t) → s ≡ t

-- two different nodes of equal hash: a new one, and one that is kept or new too
abbrev pub IsClashOf : (List ℕ → List ℕ) → Nodes → List NewNode → StoreFault → Type 0
IsClashOf hash nodes news (Collision kept given) =
    IsIn news (shape_of given) × (IsKept hash nodes (shape_of kept) ⊎ IsIn news (shape_of kept))
    × (shape_of kept ≢ shape_of given) × (hash (encoding_of (shape_of kept)) ≡ hash
    (encoding_of (shape_of given)))
IsClashOf hash nodes news OutOfMemory = ⊤

-- under each hash the last of the new nodes that have it is kept, and where none has, what was kept there
abbrev pub KeepsTheLast : Type 0
KeepsTheLast =
    (hash : List ℕ → List ℕ) (nodes : Nodes) (news : List NewNode) (h : List ℕ)
    → kept_at (with_all hash nodes news) h ≡ option_or (last_under hash news h) (kept_at nodes h)

-- where no two different nodes have one hash, all the new ones are kept, and all that were kept still are
abbrev pub KeepsAllClear : Type 0
KeepsAllClear =
    (hash : List ℕ → List ℕ) (nodes : Nodes) (news : List NewNode) → AreClear hash nodes news
    → (shape : Shape) → IsKeptOr hash nodes news shape → IsKept hash (with_all hash nodes news) shape
