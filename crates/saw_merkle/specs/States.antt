-- A map for each known root.
use Rattle.std.specs.Prelude.{◌≡◌, ℕ, List, Option, Some, IfSome, unwrap_or}
use Rattle.std.specs.Ordering.{nat_cmp}
use Rattle.std.specs.Cmp.Lexicographic.{slice_cmp}
use Rattle.std.specs.Coded.{Coded, coded_list, coded_ℕ}
use Rattle.std.specs.FinMap as finite
use Rattle.saw_address.specs.Maps.{AreAddresses, StateMap, no_entries}
use Rattle.saw_context.specs.Outcome.{map_after}
use Rattle.saw_messages.specs.declared.outcome.Change.{Change}
use Rattle.saw_node.specs.Trees.{root_of_map}
pub use Rattle.saw_runs.specs.Below.{listed_as}
pub use Rattle.saw_runs.specs.Differing.{IsDifference}
pub use Rattle.saw_runs.specs.Paths.{path_of}
pub use Rattle.saw_runs.specs.declared.listing.Listed.{Listed}

-- the map of each known root
abbrev pub States : Type 0
States = finite.FinMap (slice_cmp nat_cmp) StateMap

abbrev pub states_code : Coded States
states_code = finite.code (coded_list coded_ℕ) (finite.code (coded_list coded_ℕ) (coded_list coded_ℕ))

-- the map of a root, if it is known
abbrev pub state_at : States → List ℕ → Option StateMap
state_at states root = finite.get states root

-- the map of a known root; of another there is nothing
abbrev pub map_at : States → List ℕ → StateMap
map_at states root = unwrap_or (state_at states root) no_entries

-- a root is that of its map, which has only addresses
pub record IsRooted (hash : List ℕ → List ℕ) (root : List ℕ) (m : StateMap) : Type 0 where
  pub root_is : root_of_map hash m ≡ root
  pub addresses : AreAddresses (finite.entries m)

-- so is each known root
abbrev pub AreRooted : (List ℕ → List ℕ) → States → Type 0
AreRooted hash states = (root : List ℕ) → IfSome (state_at states root) (IsRooted hash root)

-- a map is known under its root
abbrev pub knows : (List ℕ → List ℕ) → States → StateMap → States
knows hash states m = finite.insert states (root_of_map hash m) m

-- each known root stands for the map that it stood for
abbrev pub Stays : States → States → Type 0
Stays old new = (root : List ℕ) (m : StateMap) → state_at old root ≡ Some m → state_at new root ≡ Some m

-- the map of a known root after changes is known under its own root, and each other root has the map that it had
pub record Updates (hash : List ℕ → List ℕ) (old : States) (root : List ℕ) (changes : List Change)
    (answer : List ℕ)
    (new : States) : Type 0 where
  pub answer_is : answer ≡ root_of_map hash (map_after (map_at old root) changes)
  pub known : new ≡ knows hash old (map_after (map_at old root) changes)
  pub stays : Stays old new
