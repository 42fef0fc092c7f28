-- Idle changes: they set what is set already, or delete where nothing is.
use Rattle.std.specs.Prelude.{◌≡◌, ◌≢◌, ℕ, List, Option}
use Rattle.std.specs.List.{AllByRecursion}
use Rattle.saw_address.specs.Maps.{StateMap, value_at}
use Rattle.saw_context.specs.Changed.{AreRising}
use Rattle.saw_context.specs.Outcome.{map_after}
use Rattle.saw_messages.specs.declared.outcome.Change.{Change}
use Rattle.saw_runs.specs.Places.{AreOfAddresses}
use Rattle.saw_runs.specs.Entries.{Entry, IsRead}
use Rattle.saw_runs.specs.Told.{IsRootOf}

module _ (read : List ℕ → Option Entry) (root : List ℕ) where
  -- the root's map has this already
  abbrev pub IsIdle : Change → Type 0
  IsIdle change =
      (hash : List ℕ → List ℕ) (m : StateMap) → IsRootOf hash (IsRead read) m root → value_at m change.address ≡ change.value

  -- it has something else
  abbrev pub IsActive : Change → Type 0
  IsActive change =
      (hash : List ℕ → List ℕ) (m : StateMap) → IsRootOf hash (IsRead read) m root → value_at m change.address ≢ change.value

  abbrev pub AreActive : List Change → Type 0
  AreActive changes = AllByRecursion IsActive changes

  -- rising changes that lead from the root's map to the same one
  pub record StandsFor (left changes : List Change) : Type 0 where
    pub rising : AreRising left
    pub are : AreOfAddresses changes → AreOfAddresses left
    pub same : (hash : List ℕ → List ℕ) (m : StateMap) → IsRootOf hash (IsRead read) m root
        → map_after m left ≡ map_after m changes

  -- the same, of which none is idle
  pub record AreLeftOf (left changes : List Change) : Type 0 where
    pub stands : StandsFor left changes
    pub active : AreActive left
