-- What is kept under hashes, what new pieces add to it, and what collides there.
use Rattle.std.specs.Prelude.{◌≡◌, ◌≢◌, ◌⊎◌, ⊤, ℕ, List, [], ◌∷◌, ◌++◌, Option, Some}
use Rattle.saw_node.specs.Nodes.{Shape, encoding_of, shape_of}
use Rattle.saw_store.specs.declared.fault.StoreFault.{StoreFault}
use Rattle.saw_store.specs.declared.fault.StoreFault.TheVariants.{Collision, OutOfMemory}
use Rattle.saw_runs.specs.Runs.{above_one, hash_up}
use Rattle.saw_runs.specs.Entries.{Entry, IsAmong, IsReadOr, IsWhole, entry_hash, entry_of}
use Rattle.saw_runs.specs.Entries.Entry.{OfNode, OfRun}
use Rattle.saw_runs.specs.Pieces.{EachIs}
use Rattle.saw_runs.specs.declared.pieces.NewPiece.{NewPiece}

-- ---- nodes of what is kept

-- one of the nodes of a run
abbrev pub IsRunNode : (List ℕ → List ℕ) → List ℕ → List ℕ → Shape → Type 0
IsRunNode hash [] bottom node = ⊥
IsRunNode hash (b ∷ path) bottom node = (node ≡ above_one b (hash_up hash path bottom)) ⊎ IsRunNode hash path bottom node

-- the node, or one of the run's
abbrev pub IsNodeIn : (List ℕ → List ℕ) → Entry → Shape → Type 0
IsNodeIn hash (OfNode shape) node = node ≡ shape
IsNodeIn hash (OfRun path bottom) node = IsRunNode hash path bottom node

-- a node of what is read
pub record IsNodeRead (hash : List ℕ → List ℕ) (read : List ℕ → Option Entry) (node : Shape) : Type 0 where
  pub at : List ℕ
  pub entry : Entry
  pub found : read at ≡ Some entry
  pub is : IsNodeIn hash entry node

-- a node of a new piece
pub record IsNodeAmong (hash : List ℕ → List ℕ) (news : List NewPiece) (node : Shape) : Type 0 where
  pub at : List ℕ
  pub entry : Entry
  pub among : IsAmong news at entry
  pub is : IsNodeIn hash entry node

-- the node at the end of a new run: whatever node is read or new before it under the run's last hash is this one
pub record IsEndOfNew (read : List ℕ → Option Entry) (news : List NewPiece) (node : Shape) : Type 0 where
  pub before : List NewPiece
  pub new : NewPiece
  pub after : List NewPiece
  pub split : news ≡ before ++ new ∷ after
  pub path : List ℕ
  pub bottom : List ℕ
  pub is : entry_of new.piece ≡ OfRun path bottom
  pub end : (shape : Shape) → IsReadOr read before bottom (OfNode shape) → node ≡ shape

abbrev pub IsNodeOfNew : (List ℕ → List ℕ) → (List ℕ → Option Entry) → List NewPiece → Shape → Type 0
IsNodeOfNew hash read news node = IsNodeAmong hash news node ⊎ IsEndOfNew read news node

-- ---- what is kept

-- each is kept under its own hash, and is a leaf, a fork or a run with bytes
abbrev pub AreTheirs : (List ℕ → List ℕ) → (List ℕ → Option Entry) → Type 0
AreTheirs hash read = (h : List ℕ) (entry : Entry) → read h ≡ Some entry → (h ≡ entry_hash hash entry) × IsWhole entry

-- a node is kept where a run ends
abbrev pub AreEnded : (List ℕ → Option Entry) → Type 0
AreEnded read = (h path bottom : List ℕ) → read h ≡ Some (OfRun path bottom) → (node : Shape) × (read bottom ≡ Some (OfNode node))

-- the same of a new one, where the node is read or new before it
abbrev pub IsEnded : (List ℕ → Option Entry) → List NewPiece → Entry → Type 0
IsEnded read before (OfNode shape) = Unit {0}
IsEnded read before (OfRun path bottom) = (node : Shape) × IsReadOr read before bottom (OfNode node)

abbrev pub NewsAreEnded : (List ℕ → Option Entry) → List NewPiece → Type 0
NewsAreEnded read news = EachIs (IsEnded read) [] news

-- ---- new pieces

-- no two different pieces of those that are read and these have one hash
abbrev pub AreClear : (List ℕ → Option Entry) → List NewPiece → Type 0
AreClear read news = (h : List ℕ) (e f : Entry) → IsReadOr read news h e → IsReadOr read news h f → e ≡ f

-- two different nodes of equal hash: one of a new piece, and one of what is read or new
abbrev pub IsClashOf : (List ℕ → List ℕ) → (List ℕ → Option Entry) → List NewPiece → StoreFault → Type 0
IsClashOf hash read news (Collision kept given) =
    IsNodeOfNew hash read news (shape_of given)
    × (IsNodeRead hash read (shape_of kept) ⊎ IsNodeOfNew hash read news (shape_of kept))
    × (shape_of kept ≢ shape_of given)
    × (hash (encoding_of (shape_of kept)) ≡ hash (encoding_of (shape_of given)))
IsClashOf hash read news OutOfMemory = ⊤

-- all that was kept still is, with the new pieces, and nothing else came
pub record AddsPieces (old new : List ℕ → Option Entry) (news : List NewPiece) : Type 0 where
  pub grows : (h : List ℕ) (entry : Entry) → old h ≡ Some entry → new h ≡ Some entry
  pub here : (h : List ℕ) (entry : Entry) → IsAmong news h entry → new h ≡ Some entry
  pub others : (h : List ℕ) (entry : Entry) → new h ≡ Some entry → IsReadOr old news h entry
