-- The changes that lead from one map to another, and how they are gathered from what is read of both.
use Rattle.std.specs.Prelude.{◌≡◌, ◌≢◌, ◌⊎◌, ◌≤◌, ℕ, Bool, true, false, cond, List, [], ◌∷◌, ◌++◌, Option, Some, None, length, map, option_copied}
use Rattle.std.specs.List.{AllByRecursion, flat_map}
use Rattle.std.specs.Str.{bytes_eq}
use Rattle.saw_address.specs.Maps.{Entries, StateMap, value_at}
use Rattle.saw_address.specs.Prefixes.{covers}
use Rattle.saw_context.specs.Changed.{AreRising}
use Rattle.saw_context.specs.Outcome.{map_after}
use Rattle.saw_messages.specs.declared.outcome.Change.{Change}
use Rattle.saw_node.specs.Trees.{found_at}
use Rattle.saw_runs.specs.Below.{read_by}
use Rattle.saw_runs.specs.Entries.{Entry}
use Rattle.saw_runs.specs.Listing.{opened_by}
use Rattle.saw_runs.specs.declared.beside.Kids.{Kids}
use Rattle.saw_runs.specs.declared.beside.Kids.TheVariants.{Node, Only}
use Rattle.saw_runs.specs.declared.ways.Way.{Way}

-- rising changes, each of which changes something, that lead from the first map to the second
pub record IsDifference (m n : StateMap) (changes : List Change) : Type 0 where
  pub rising : AreRising changes
  pub leads : map_after m changes ≡ n
  pub needed : AllByRecursion (λ change. value_at m change.address ≢ change.value) changes

-- ---- by entries

-- whether both are nothing, or one value
abbrev pub is_same_value : Option (List ℕ) → Option (List ℕ) → Bool
is_same_value None None = true
is_same_value None (Some value) = false
is_same_value (Some old) None = false
is_same_value (Some old) (Some value) = bytes_eq old value

-- what is to be set where the first stood and the second is to stand
abbrev pub set_for : Option (List ℕ) → Option (List ℕ) → Option (Option (List ℕ))
set_for old value = cond (is_same_value old value) None (Some value)

-- what changes set at an address
abbrev pub set_at : List ℕ → List Change → Option (Option (List ℕ))
set_at q [] = None
set_at q (change ∷ changes) = cond (bytes_eq change.address q) (Some change.value) (set_at q changes)

-- the change of one address, if there is one
abbrev pub changes_at : List ℕ → Option (Option (List ℕ)) → List Change
changes_at q None = []
changes_at q (Some value) = record { address = q; value = value } ∷ []

-- rising changes set what is to be set between two lists of entries, all of addresses of some kind
pub record Differ (Is : List ℕ → Type 0) (es fs : Entries) (changes : List Change) : Type 0 where
  pub of_first : AllByRecursion (λ entry. Is entry.0) es
  pub of_second : AllByRecursion (λ entry. Is entry.0) fs
  pub are : AllByRecursion (λ change. Is change.address) changes
  pub rising : AreRising changes
  pub each : (q : List ℕ) → set_at q changes ≡ set_for (found_at q es) (found_at q fs)

-- an address below a place
abbrev pub IsBelow : List ℕ → List ℕ → Type 0
IsBelow place q = covers place q ≡ true

-- ---- by pieces

-- the run with these bytes down to a node; where there is none, no run
abbrev pub part_of : List ℕ → Option (List ℕ) → Option (List ℕ × List ℕ)
part_of path None = None
part_of path (Some bottom) = Some (path, bottom)

-- the run that a way stands for
abbrev pub way_part : Way → Option (List ℕ × List ℕ)
way_part way = part_of way.path.now (option_copied way.bottom)

-- the changes from what is read by one run to what is read by another stand behind those before
pub record AddsDifference (read : List ℕ → Option Entry) (levels : ℕ) (place : List ℕ) (first second : Option (List ℕ × List ℕ))
    (old new : List Change) : Type 0 where
  pub more : List Change
  pub grown : new ≡ old ++ more
  pub differ : Differ (IsBelow place) (read_by read levels place first) (read_by read levels place second) more

-- a kid: its byte, and the run that leads down from it
abbrev pub Lead : Type 0
Lead = ℕ × Option (List ℕ × List ℕ)

-- the kids, as they are read
abbrev pub kids_in : (List ℕ → Option Entry) → Kids → List Lead
kids_in read (Node children) = map (λ child. (child.byte, Some (opened_by child.hash (read child.hash)))) children.now
kids_in read (Only byte way) = (byte, way_part way) ∷ []

-- no way is longer than an address
abbrev pub FitKids : Kids → Type 0
FitKids (Node children) = Unit {0}
FitKids (Only byte way) = length way.path.now ≤ 35

-- the entries below kids
abbrev pub entries_of : (List ℕ → Option Entry) → ℕ → List ℕ → List Lead → Entries
entries_of read levels place kids = flat_map (λ kid. read_by read levels (place ++ kid.0 ∷ []) kid.1) kids

-- the first kid has the byte
abbrev pub Begins : ℕ → List Lead → Type 0
Begins b [] = ⊥
Begins b (kid ∷ kids) = kid.0 ≡ b

-- the first kid, if there is one, has no lesser byte
abbrev pub BeginsFrom : ℕ → List Lead → Type 0
BeginsFrom b [] = Unit {0}
BeginsFrom b (kid ∷ kids) = b ≤ kid.0

-- the byte is the least of both lists
pub record IsFirst (b : ℕ) (firsts seconds : List Lead) : Type 0 where
  pub of_first : BeginsFrom b firsts
  pub of_second : BeginsFrom b seconds
  pub begins : Begins b firsts ⊎ Begins b seconds

-- the first kid, if it has the byte, is taken; else none is
abbrev pub Takes : ℕ → List Lead → Option (List ℕ × List ℕ) → List Lead → Type 0
Takes b kids part rest = ((Begins b kids → ⊥) × (part ≡ None) × (rest ≡ kids)) ⊎ (kids ≡ (b, part) ∷ rest)

-- kids that stand at the front of both are passed over
abbrev pub PassSame : (firsts seconds rest others : List Lead) → Type 0
PassSame firsts seconds rest others =
    (same : List Lead) × (firsts ≡ same ++ rest) × (seconds ≡ same ++ others)
