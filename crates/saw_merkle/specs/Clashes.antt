-- Nodes and pieces of maps, and those that collide: two different ones of equal hash.
use Rattle.std.specs.Prelude.{◌≡◌, ◌≢◌, ◌⊎◌, ⊤, ℕ, List, Some}
use Rattle.std.specs.FinMap as finite
use Rattle.saw_address.specs.Maps.{AreAddresses, StateMap}
use Rattle.saw_node.specs.Nodes.{Shape, encoding_of, shape_of}
use Rattle.saw_node.specs.Trees.{IsNodeOf, root_of_map}
use Rattle.saw_runs.specs.Entries.{AreNamed, Entry, IsAmong, entry_hash}
use Rattle.saw_runs.specs.OfMaps.{IsPieceOf}
use Rattle.saw_store.specs.declared.fault.StoreFault.{StoreFault}
use Rattle.saw_store.specs.declared.fault.StoreFault.TheVariants.{Collision, OutOfMemory}
use Rattle.saw_merkle.specs.Preparations.{Preparation}
use Rattle.saw_merkle.specs.States.{States, state_at}

-- a node of the map of a known root
pub record IsNodeOfKnown (hash : List ℕ → List ℕ) (states : States) (node : Shape) : Type 0 where
  pub root : List ℕ
  pub m : StateMap
  pub known : state_at states root ≡ Some m
  pub is : IsNodeOf hash (finite.entries m) node

-- a node of a map, or of that of a known root
abbrev pub IsNodeOfBoth : (List ℕ → List ℕ) → States → StateMap → Shape → Type 0
IsNodeOfBoth hash states m node = IsNodeOfKnown hash states node ⊎ IsNodeOf hash (finite.entries m) node

-- a piece of the map of a known root: a fork, a leaf, or a run of only children between them
pub record IsPieceOfKnown (hash : List ℕ → List ℕ) (states : States) (piece : Entry) : Type 0 where
  pub root : List ℕ
  pub m : StateMap
  pub known : state_at states root ≡ Some m
  pub is : IsPieceOf hash (finite.entries m) piece

-- a piece of a map, or of that of a known root
abbrev pub IsPieceOfBoth : (List ℕ → List ℕ) → States → StateMap → Entry → Type 0
IsPieceOfBoth hash states m piece = IsPieceOfKnown hash states piece ⊎ IsPieceOf hash (finite.entries m) piece

-- no two different pieces of the maps of known roots have one hash
abbrev pub AreTold : (List ℕ → List ℕ) → States → Type 0
AreTold hash states =
    (e f : Entry) → IsPieceOfKnown hash states e → IsPieceOfKnown hash states f
    → entry_hash hash e ≡ entry_hash hash f → e ≡ f

-- and none of those and of a further map
abbrev pub AreToldWith : (List ℕ → List ℕ) → States → StateMap → Type 0
AreToldWith hash states m =
    (e f : Entry) → IsPieceOfBoth hash states m e → IsPieceOfBoth hash states m f
    → entry_hash hash e ≡ entry_hash hash f → e ≡ f

-- two different nodes of equal hash: one of the new map, and one of that map or of a known root's
abbrev pub IsClashFor : (List ℕ → List ℕ) → States → StateMap → StoreFault → Type 0
IsClashFor hash states m (Collision kept given) =
    IsNodeOf hash (finite.entries m) (shape_of given) × IsNodeOfBoth hash states m (shape_of kept)
    × (shape_of kept ≢ shape_of given) × (hash (encoding_of (shape_of kept)) ≡ hash
    (encoding_of (shape_of given)))
IsClashFor hash states m OutOfMemory = ⊤

-- what a map needs to become known: its root, and pieces of it, among them all that no known map has; none of its
-- pieces collide
pub record IsPreparedFor (hash : List ℕ → List ℕ) (states : States) (m : StateMap)
    (prepared : Preparation) : Type 0 where
  pub root : prepared.root ≡ root_of_map hash m
  pub addresses : AreAddresses (finite.entries m)
  pub named : AreNamed hash prepared.news
  pub only : (h : List ℕ) (piece : Entry) → IsAmong prepared.news h piece → IsPieceOf hash (finite.entries m) piece
  pub whole : (piece : Entry) → IsPieceOf hash (finite.entries m) piece → IsPieceOfKnown hash states piece
      ⊎ IsAmong prepared.news (entry_hash hash piece) piece
  pub told : AreToldWith hash states m
