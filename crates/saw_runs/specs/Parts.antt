-- Parts of a list of changes that are worked on apart.
use Rattle.std.specs.Prelude.{◌≡◌, ◌++◌, ◌<◌, ◌≤◌, ◌-◌, ℕ, List, [], ◌∷◌, length, map, take, drop, get_or, Option, Ok, IfOk}
use Rattle.std.specs.List.{AllByRecursion}
use Rattle.std.specs.Option.{option_map}
use Rattle.saw_messages.specs.declared.outcome.Change.{Change}
use Rattle.saw_runs.specs.Places.{EndsGroup, FitsSome, IsEdge, byte_of}
use Rattle.saw_runs.specs.Tables.{at_byte, replaced}
use Rattle.saw_runs.specs.Entries.{Entry}
use Rattle.saw_runs.specs.Lowers.{IsOpened, kid_pair}
use Rattle.saw_runs.specs.Changes.{ChangesBelow}
use Rattle.saw_runs.specs.declared.run.Run.{Run}
use Rattle.saw_runs.specs.declared.pieces.NewPiece.{NewPiece}
use Rattle.saw_runs.specs.declared.lowers.Lower.TheVariants.{Made}
use Rattle.saw_runs.specs.declared.lowers.Kid.{Kid}
use Rattle.saw_runs.specs.declared.sharing.Part.{Part}

-- the changes of a part
abbrev pub members_of : List Change → Part → List Change
members_of changes part = take (part.end - part.at) (drop part.at changes)

-- a part that may be worked on
pub record IsReady (levels : ℕ) (changes : List Change) (part : Part) : Type 0 where
  pub within : part.at < part.end
  pub ends : part.end ≤ length changes
  pub short : length part.path.items ≤ 35
  pub none : part.news.items ≡ []
  pub fits : FitsSome levels (members_of changes part)

-- each part may be worked on
abbrev pub AreReady : ℕ → List Change → List Part → Type 0
AreReady levels changes parts = (i : ℕ) (d : Part) → i < length parts → IsReady levels changes (get_or parts i d)

-- what was found for a part stands for its changes below its run
pub record WasRun (hash : List ℕ → List ℕ) (read : List ℕ → Option Entry) (levels : ℕ) (changes : List Change)
    (old new : Part) : Type 0 where
  pub at : new.at ≡ old.at
  pub end : new.end ≡ old.end
  pub byte : new.byte ≡ old.byte
  pub found : IfOk new.answer (λ answer.
      ChangesBelow hash read (members_of changes old) levels old.path.items old.bottom answer [] new.news.items)

-- so was each part
abbrev pub WereRun : (List ℕ → List ℕ) → (List ℕ → Option Entry) → ℕ → List Change → List Part → List Part → Type 0
WereRun hash read levels changes old new =
    (i : ℕ) (d : Part) → i < length old → WasRun hash read levels changes (get_or old i d) (get_or new i d)

-- a part is one group of the changes, with what is opened at its byte
pub record IsPart (read : List ℕ → Option Entry) (depth : ℕ) (kids : List Kid) (changes : List Change)
    (part : Part) : Type 0 where
  pub group : EndsGroup depth changes part.at part.end
  pub edge : IsEdge depth changes part.at
  pub byte : (d : Change) → part.byte ≡ byte_of depth (get_or changes part.at d)
  pub small : part.byte < 256
  pub short : length part.path.items ≤ 35
  pub opened : IsOpened read (at_byte part.byte (map kid_pair kids)) part.path.items part.bottom
  pub none : part.news.items ≡ []

-- the parts follow each other from one place of the list up to another
abbrev pub Follow : ℕ → List Part → ℕ → Type 0
Follow i [] e = i ≡ e
Follow i (part ∷ parts) e = (part.at ≡ i) × Follow part.end parts e

-- the parts are the groups of the changes
pub record ArePartsOf (read : List ℕ → Option Entry) (depth : ℕ) (kids : List Kid) (changes : List Change)
    (parts : List Part) : Type 0 where
  pub each : AllByRecursion (IsPart read depth kids changes) parts
  pub follow : Follow 0 parts (length changes)

-- what was found for a part, and its new pieces, are put
pub record PutsPart (part : Part) (old new : List Kid) (before after : List NewPiece) : Type 0 where
  pub answer : Option Run
  pub found : part.answer ≡ Ok answer
  pub put : map kid_pair new ≡ replaced part.byte (option_map Made answer) (map kid_pair old)
  pub more : after ≡ before ++ part.news.items
