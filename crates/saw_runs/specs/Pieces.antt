-- Pieces of a map's tree: its forks and leaves, and the runs between them.
use Rattle.std.specs.Prelude.{◌≡◌, ◌≢◌, ◌⊎◌, ◌+◌, ℕ, true, List, [], ◌∷◌, ◌++◌, length, Option}
use Rattle.saw_address.specs.Maps.{Entries}
use Rattle.saw_node.specs.Trees.{has_under, next_bytes, node_at}
use Rattle.saw_runs.specs.Entries.{Entry, IsReadOr, entry_of}
use Rattle.saw_runs.specs.Entries.Entry.{OfNode, OfRun}
use Rattle.saw_runs.specs.Told.{IsTold}
use Rattle.saw_runs.specs.declared.pieces.NewPiece.{NewPiece}

-- the node at a place, or a run that leads down from there to what is kept
abbrev pub IsPieceAt : (List ℕ → List ℕ) → (List ℕ → Entry → Type 0) → Entries → ℕ → List ℕ → Entry → Type 0
IsPieceAt hash Kept es levels place (OfNode shape) =
    (has_under es place ≡ true) × (shape ≡ node_at hash es levels place)
IsPieceAt hash Kept es levels place (OfRun path bottom) =
    (has_under es place ≡ true) × IsTold hash Kept es levels place path bottom

-- a run begins at the root, or below a node that has not one child
abbrev pub IsTop : Entries → List ℕ → List ℕ → Entry → Type 0
IsTop es place rest (OfNode shape) = Unit {0}
IsTop es place rest (OfRun path bottom) =
    (place ++ rest ≡ [])
    ⊎ ((front : List ℕ) × (b : ℕ) × (rest ≡ front ++ b ∷ []) × (length (next_bytes es (place ++ front)) ≢ 1))

-- the same at or below a place, so many levels above the values
pub record IsPieceBelow (hash : List ℕ → List ℕ) (Kept : List ℕ → Entry → Type 0) (es : Entries) (levels : ℕ)
    (place : List ℕ) (entry : Entry) : Type 0 where
  pub left : ℕ
  pub rest : List ℕ
  pub deep : left + length rest ≡ levels
  pub is : IsPieceAt hash Kept es left (place ++ rest) entry
  pub top : IsTop es place rest entry

-- so is each of a list, by those before it
unfoldable pub EachIs : (List NewPiece → Entry → Type 0) → List NewPiece → List NewPiece → Type 0
EachIs Is earlier [] = Unit {0}
EachIs Is earlier (new ∷ others) = Is earlier (entry_of new.piece) × EachIs Is (earlier ++ new ∷ []) others

-- each is a piece of a map below a place, and what a run leads to is read, or new before it
abbrev pub ArePieces : (List ℕ → List ℕ) → (List ℕ → Option Entry) → Entries → ℕ → List ℕ → List NewPiece → List NewPiece → Type 0
ArePieces hash read es levels place earlier news =
    EachIs (λ before entry. IsPieceBelow hash (IsReadOr read before) es levels place entry) earlier news
