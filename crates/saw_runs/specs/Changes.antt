-- What changes below a place lead to.
use Rattle.std.specs.Prelude.{◌≡◌, ◌⊎◌, ◌+◌, ◌≤◌, ℕ, suc, List, [], ◌∷◌, ◌++◌, length, map, Option, Some, None}
use Rattle.std.specs.List.{AllByRecursion}
use Rattle.std.specs.FinMap as finite
use Rattle.saw_address.specs.Maps.{Entries, StateMap, no_entries}
use Rattle.saw_context.specs.Outcome.{map_after}
use Rattle.saw_messages.specs.declared.outcome.Change.{Change}
use Rattle.saw_runs.specs.Places.{AreAddressed}
use Rattle.saw_runs.specs.Places.{Fits}
use Rattle.saw_runs.specs.Places.{AreOfAddresses}
use Rattle.saw_runs.specs.Told.{IsRootOf}
use Rattle.saw_node.specs.Nodes.{pair_of}
use Rattle.saw_node.specs.declared.node.Child.{Child}
use Rattle.saw_runs.specs.Runs.{hash_up}
use Rattle.saw_runs.specs.Entries.{Entry, AreNamed, IsAmong, IsRead, IsReadOr, IsWhole, entry_hash, entry_of}
use Rattle.saw_runs.specs.Entries.Entry.{OfNode, OfRun}
use Rattle.saw_runs.specs.Pieces.{ArePieces, EachIs}
use Rattle.saw_runs.specs.Lowers.{AreFor, IsOpened, Reads, Stands, hashed_pair}
use Rattle.saw_runs.specs.declared.lowers.Lower.{Lower}
use Rattle.saw_runs.specs.declared.lowers.Lower.TheVariants.{Held, Made}
use Rattle.saw_runs.specs.declared.pieces.NewPiece.{NewPiece}
use Rattle.saw_runs.specs.declared.run.Run.{Run}
use Rattle.saw_runs.specs.declared.lowers.Kid.{Kid}

-- the answer tells what a map has below a place, and the new pieces are pieces of that map
pub record StandsWith (hash : List ℕ → List ℕ) (read : List ℕ → Option Entry) (es : Entries) (levels : ℕ) (place : List ℕ)
    (answer : Option Run) (news : List NewPiece) : Type 0 where
  pub stands : Stands hash (IsReadOr read news) es levels place answer
  pub only : ArePieces hash read es levels place [] news

-- for every map that is read below a place before, the answer tells it after the changes
pub record ChangesBelow (hash : List ℕ → List ℕ) (read : List ℕ → Option Entry) (changes : List Change) (levels : ℕ)
    (path : List ℕ) (before : Option (List ℕ)) (answer : Option Run) (old new : List NewPiece) : Type 0 where
  pub news : List NewPiece
  pub grown : new ≡ old ++ news
  pub named : AreNamed hash news
  pub told : (m : StateMap) (place : List ℕ) → AreAddressed m → Fits levels place changes
      → Reads hash (IsRead read) (finite.entries m) levels place path before
      → StandsWith hash read (finite.entries (map_after m changes)) levels place answer news

-- the same behind earlier new pieces
pub record FinishesWith (hash : List ℕ → List ℕ) (read : List ℕ → Option Entry) (es : Entries) (levels : ℕ) (place : List ℕ)
    (answer : Option Run) (before news : List NewPiece) : Type 0 where
  pub stands : Stands hash (IsReadOr read (before ++ news)) es levels place answer
  pub only : ArePieces hash read es levels place before news

-- for every map whose kids these are, the answer tells it: no kid, nothing; one, a run down it; more, a fork
pub record Finishes (hash : List ℕ → List ℕ) (read : List ℕ → Option Entry) (kids : List Kid) (answer : Option Run)
    (old new : List NewPiece) : Type 0 where
  pub news : List NewPiece
  pub grown : new ≡ old ++ news
  pub named : AreNamed hash news
  pub told : (m : StateMap) (levels : ℕ) (place : List ℕ) (before : List NewPiece) → AreAddressed m → suc levels + length place ≡ 35
      → AreFor hash (IsRead read) (IsReadOr read before) (finite.entries m) levels place kids
      → FinishesWith hash read (finite.entries m) (suc levels) place answer before news

-- ---- the steps

-- one more new piece
pub record AddsPiece (hash : List ℕ → List ℕ) (entry : Entry) (answer : List ℕ) (old new : List NewPiece) : Type 0 where
  pub made : NewPiece
  pub is : entry_of made.piece ≡ entry
  pub named : made.hash ≡ entry_hash hash (entry_of made.piece)
  pub whole : IsWhole (entry_of made.piece)
  pub here : answer ≡ made.hash
  pub more : new ≡ old ++ made ∷ []

-- a run of no node to a new one
pub record AddsEnd (hash : List ℕ → List ℕ) (entry : Entry) (run : Run) (old new : List NewPiece) : Type 0 where
  pub path : run.path.items ≡ []
  pub adds : AddsPiece hash entry run.bottom old new

-- a new leaf for a value
abbrev pub MakesLeaf : (List ℕ → List ℕ) → Option (List ℕ) → Option (List ℕ) → List NewPiece → List NewPiece → Type 0
MakesLeaf hash None bottom old new = (bottom ≡ None) × (new ≡ old)
MakesLeaf hash (Some value) None old new = ⊥
MakesLeaf hash (Some value) (Some bottom) old new = AddsPiece hash (OfNode (record { value = Some value; children = [] })) bottom old new

-- nothing for no value, else a run of no node to a new leaf
abbrev pub ChangesLeaf : (List ℕ → List ℕ) → Option (List ℕ) → Option Run → List NewPiece → List NewPiece → Type 0
ChangesLeaf hash None answer old new = (answer ≡ None) × (new ≡ old)
ChangesLeaf hash (Some value) None old new = ⊥
ChangesLeaf hash (Some value) (Some run) old new =
    AddsEnd hash (OfNode (record { value = Some value; children = [] })) run old new

-- a hash stays; a run of no node is the node at its end; another one is new
abbrev pub Closes : (List ℕ → List ℕ) → Lower → List ℕ → List NewPiece → List NewPiece → Type 0
Closes hash (Held h) answer old new = (answer ≡ h) × (new ≡ old)
Closes hash (Made run) answer old new =
    ((run.path.items ≡ []) × (answer ≡ run.bottom) × (new ≡ old))
    ⊎ AddsPiece hash (OfRun run.path.items run.bottom) answer old new

-- a run with bytes is among the new pieces
abbrev pub IsClosed : (List ℕ → List ℕ) → List NewPiece → Lower → Type 0
IsClosed hash news (Held h) = Unit {0}
IsClosed hash news (Made run) =
    (run.path.items ≡ []) ⊎ IsAmong news (hash_up hash run.path.items run.bottom) (OfRun run.path.items run.bottom)

-- the entry is the run that is made for a part
abbrev pub IsRunOf : Lower → Entry → Type 0
IsRunOf lower entry = (run : Run) × (lower ≡ Made run) × (entry ≡ OfRun run.path.items run.bottom)

-- for one of these kids
abbrev pub IsRunOfOne : List Kid → Entry → Type 0
IsRunOfOne [] entry = ⊥
IsRunOfOne (kid ∷ kids) entry = IsRunOf kid.lower entry ⊎ IsRunOfOne kids entry

-- the children have the hashes of these kids, whose runs are new
pub record ClosesAll (hash : List ℕ → List ℕ) (kids : List Kid) (children : List Child) (old new : List NewPiece) : Type 0 where
  pub news : List NewPiece
  pub grown : new ≡ old ++ news
  pub named : AreNamed hash news
  pub pairs : map pair_of children ≡ map (hashed_pair hash) kids
  pub closed : AllByRecursion (λ kid. IsClosed hash news kid.lower) kids
  pub runs : EachIs (λ before entry. IsRunOfOne kids entry) [] news

-- what an only kid is opened to, with its byte in front
abbrev pub OpensOnlyKid : (List ℕ → Option Entry) → Kid → Option Run → Type 0
OpensOnlyKid read kid None =
    (path : List ℕ) × (bottom : Option (List ℕ)) × IsOpened read (Some kid.lower) path bottom × ((bottom ≡ None) ⊎ (35 ≤ length path))
OpensOnlyKid read kid (Some run) =
    (path : List ℕ) × IsOpened read (Some kid.lower) path (Some run.bottom) × (run.path.items ≡ kid.byte ∷ path)

-- ---- at the root

-- nothing leaves the empty root; a run is closed
abbrev pub ClosesRoot : (List ℕ → List ℕ) → List ℕ → Option Run → List ℕ → List NewPiece → List NewPiece → Type 0
ClosesRoot hash empty None answer old new = (answer ≡ empty) × (new ≡ old)
ClosesRoot hash empty (Some run) answer old new = Closes hash (Made run) answer old new

-- the root is that of the map, all of which is read or new, and the new pieces are the map's
pub record IsRootWith (hash : List ℕ → List ℕ) (read : List ℕ → Option Entry) (m : StateMap) (root : List ℕ)
    (news : List NewPiece) : Type 0 where
  pub is : IsRootOf hash (IsReadOr read news) m root
  pub only : ArePieces hash read (finite.entries m) 35 [] [] news

-- for the map of a root, the answer is the root after the changes, all of which is read or new
pub record ChangesRoot (hash : List ℕ → List ℕ) (read : List ℕ → Option Entry) (empty root : List ℕ) (changes : List Change)
    (answer : List ℕ) (old new : List NewPiece) : Type 0 where
  pub news : List NewPiece
  pub grown : new ≡ old ++ news
  pub named : AreNamed hash news
  pub told : (m : StateMap) → IsRootOf hash (IsRead read) m root → IsRootOf hash (IsRead read) no_entries empty
      → AreOfAddresses changes → IsRootWith hash read (map_after m changes) answer news

-- ---- a node that has one kid, or none

-- what lies below the byte, where nothing lies below another one
abbrev pub IsOnly : ℕ → List ℕ → Option (List ℕ) → List ℕ → Option (List ℕ) → Type 0
IsOnly b path None below bottom = (below ≡ []) × (bottom ≡ None)
IsOnly b path (Some h) below bottom = (path ≡ b ∷ below) × (bottom ≡ Some h)

-- one run above another one, or nothing; nothing too where a run is too long
abbrev pub OnTop : ℕ → Option Run → Option Run → Type 0
OnTop b None None = Unit {0}
OnTop b None (Some above) = ⊥
OnTop b (Some run) None = 35 ≤ length run.path.items
OnTop b (Some run) (Some above) = (above.path.items ≡ b ∷ run.path.items) × (above.bottom ≡ run.bottom)
