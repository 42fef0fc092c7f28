-- New pieces by their kinds and places, and where two pieces of one hash are apart.
use Rattle.std.specs.Prelude.{◌≡◌, ◌≢◌, ◌<◌, ℕ, cond, List, [], ◌∷◌, ◌++◌, drop, length, slice_index_or, take, Option, Some, None}
use Rattle.std.specs.Map.{lookup}
use Rattle.std.specs.Str.{bytes_eq}
use Rattle.saw_node.specs.Nodes.{Shape}
use Rattle.saw_store.specs.declared.fault.StoreFault.{StoreFault}
use Rattle.saw_store.specs.declared.new_node.NewNode.{NewNode}
use Rattle.saw_runs.specs.Runs.{above_one, hash_up}
use Rattle.saw_runs.specs.Entries.{Entry, IsAmong, IsReadOr, IsWhole, entry_hash}
use Rattle.saw_runs.specs.Entries.Entry.{OfNode, OfRun}
use Rattle.saw_runs.specs.Keeping.{AreClear, IsClashOf, IsEnded}
use Rattle.saw_runs.specs.declared.run.Run as declared_run
use Rattle.saw_runs.specs.declared.pieces.Piece.{Piece}
use Rattle.saw_runs.specs.declared.pieces.Piece.TheVariants.{Node, Run}
use Rattle.saw_runs.specs.declared.pieces.NewPiece.{NewPiece}

-- ---- by kinds

abbrev pub node_in : List ℕ → Piece → List NewNode
node_in h (Node node) = record { hash = h; node = node } ∷ []
node_in h (Run run) = []

abbrev pub run_in : List ℕ → Piece → List (List ℕ × declared_run.Run)
run_in h (Node node) = []
run_in h (Run run) = (h, run) ∷ []

-- the nodes among new pieces
abbrev pub nodes_among : List NewPiece → List NewNode
nodes_among [] = []
nodes_among (new ∷ others) = node_in new.hash new.piece ++ nodes_among others

-- the runs among them, each with its hash
abbrev pub runs_among : List NewPiece → List (List ℕ × declared_run.Run)
runs_among [] = []
runs_among (new ∷ others) = run_in new.hash new.piece ++ runs_among others

-- what is found under a key once these are put: the last that has it, else what was found before
abbrev pub found_after : {A : Type 0} → Option A → List (List ℕ × A) → List ℕ → Option A
found_after found [] key = found
found_after found (pair ∷ pairs) key = found_after (cond (bytes_eq pair.0 key) (Some pair.1) found) pairs key

-- ---- by places

-- under the hash of each new piece a place of such a one is noted, and no other place
pub record AreNoted (news : List NewPiece) (places : List (List ℕ × ℕ)) : Type 0 where
  pub within : (h : List ℕ) (place : ℕ) → lookup (bytes_eq h) places ≡ Some place → place < length news
  pub here : (other : NewPiece) (h : List ℕ) (place : ℕ) → lookup (bytes_eq h) places ≡ Some place
      → (slice_index_or news place other).hash ≡ h
  pub all : (h : List ℕ) (entry : Entry) → IsAmong news h entry → lookup (bytes_eq h) places ≢ None

-- ---- what is read or new

-- under its own hash, a leaf, a fork or a run with bytes, and a node is known where it ends
abbrev pub IsSound : (List ℕ → List ℕ) → (List ℕ → Option Entry) → List NewPiece → List ℕ → Entry → Type 0
IsSound hash read before h entry = (h ≡ entry_hash hash entry) × IsWhole entry × IsEnded read before entry

-- each is so, and no two different ones have one hash
pub record AreSound (hash : List ℕ → List ℕ) (read : List ℕ → Option Entry) (before : List NewPiece) : Type 0 where
  pub each : (h : List ℕ) (entry : Entry) → IsReadOr read before h entry → IsSound hash read before h entry
  pub clear : AreClear read before

-- what is found is so, and where nothing is found nothing is so
abbrev pub IsFound : (Entry → Type 0) → Option Entry → Type 0
IsFound Is None = (entry : Entry) → Is entry → ⊥
IsFound Is (Some entry) = Is entry

-- nothing else is read or new under the hash
abbrev pub IsFree : (List ℕ → Option Entry) → List NewPiece → List ℕ → Entry → Type 0
IsFree read before h entry = (other : Entry) → IsReadOr read before h other → other ≡ entry

-- ---- where two are apart

-- a piece as a run: its bytes, of which a node has none
abbrev pub bytes_of : Entry → List ℕ
bytes_of (OfNode shape) = []
bytes_of (OfRun path bottom) = path

-- and the hash at its end, which is a node's own
abbrev pub bottom_of : List ℕ → Entry → List ℕ
bottom_of h (OfNode shape) = h
bottom_of h (OfRun path bottom) = bottom

-- two runs have equal bytes down to a place, and one hash there; then one has ended, or the nodes there differ
pub record ArePartedAt (hash : List ℕ → List ℕ) (one first two second : List ℕ) (place : ℕ) : Type 0 where
  pub passed : take place one ≡ take place two
  pub alike : hash_up hash (drop place one) first ≡ hash_up hash (drop place two) second
  pub apart : (b c : ℕ) (path rest : List ℕ) → drop place one ≡ b ∷ path → drop place two ≡ c ∷ rest
      → b ≡ c → hash_up hash path first ≡ hash_up hash rest second → ⊥

-- the top node of a run; of one without bytes, the node that is known under its hash
abbrev pub IsTopOf : (List ℕ → List ℕ) → (List ℕ → Entry → Type 0) → List ℕ → List ℕ → Shape → Type 0
IsTopOf hash Known [] bottom node = Known bottom (OfNode node)
IsTopOf hash Known (b ∷ path) bottom node = node ≡ above_one b (hash_up hash path bottom)

-- the node of a piece at a place down from its top; a node is its own at each
abbrev pub IsNodeAt : (List ℕ → List ℕ) → (List ℕ → Entry → Type 0) → Entry → ℕ → Shape → Type 0
IsNodeAt hash Known (OfNode shape) place node = node ≡ shape
IsNodeAt hash Known (OfRun path bottom) place node = IsTopOf hash Known (drop place path) bottom node

-- two nodes collide, whatever new pieces come behind the second one's
abbrev pub IsClashWith : (List ℕ → List ℕ) → (List ℕ → Option Entry) → List NewPiece → NewPiece → StoreFault → Type 0
IsClashWith hash read before new fault = (behind : List NewPiece) → IsClashOf hash read (before ++ new ∷ behind) fault
