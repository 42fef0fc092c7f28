-- Addresses below a place of the tree, and changes there by the byte that follows the place.
use Rattle.std.specs.Prelude.{◌≡◌, ◌≢◌, ◌+◌, ◌-◌, ◌<◌, ◌≤◌, ℕ, get_or, true, List, length, is_some}
use Rattle.std.specs.List.{AllByRecursion}
use Rattle.saw_address.specs.Maps.{StateMap, value_at, is_address}
use Rattle.saw_address.specs.Prefixes.{covers}
use Rattle.saw_context.specs.Changed.{AreRising}
use Rattle.saw_messages.specs.declared.outcome.Change.{Change}

-- each key is an address
abbrev pub AreAddressed : StateMap → Type 0
AreAddressed m = (q : List ℕ) → is_some (value_at m q) ≡ true → is_address q ≡ true

-- the changes are of addresses
abbrev pub AreOfAddresses : List Change → Type 0
AreOfAddresses changes = AllByRecursion (λ change. is_address change.address ≡ true) changes

-- rising addresses below a place, which is so many levels above the values
pub record Fits (levels : ℕ) (place : List ℕ) (changes : List Change) : Type 0 where
  pub deep : levels + length place ≡ 35
  pub under : AllByRecursion (λ change. covers place change.address ≡ true) changes
  pub are : AllByRecursion (λ change. is_address change.address ≡ true) changes
  pub rising : AreRising changes

-- rising addresses below some place so many levels above the values
pub record FitsSome (levels : ℕ) (changes : List Change) : Type 0 where
  pub place : List ℕ
  pub fits : Fits levels place changes

-- the byte of a change's address at a depth
abbrev pub byte_of : ℕ → Change → ℕ
byte_of depth change = get_or change.address depth 0

-- where the changes end that have the byte of the one at i
pub record EndsGroup (depth : ℕ) (changes : List Change) (i e : ℕ) : Type 0 where
  pub within : i < e
  pub ends : e ≤ length changes
  pub same : (k : ℕ) (d : Change) → i ≤ k → k < e
      → byte_of depth (get_or changes k d) ≡ byte_of depth (get_or changes i d)
  pub edge : (d : Change) → e < length changes
      → byte_of depth (get_or changes e d) ≢ byte_of depth (get_or changes i d)

-- a group begins at i
abbrev pub IsEdge : ℕ → List Change → ℕ → Type 0
IsEdge depth changes i =
    (d : Change) → 0 < i → i < length changes
    → byte_of depth (get_or changes (i - 1) d) ≢ byte_of depth (get_or changes i d)
