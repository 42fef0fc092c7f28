-- The state as a finite map from addresses to bytes.
use Rattle.std.specs.Prelude.{◌≡◌, ℕ, Bool, true, ◌&&◌, nat_lt, ◌==◌, List, length, Option, Some, None}
use Rattle.std.specs.Ordering.{nat_cmp}
use Rattle.std.specs.Cmp.Lexicographic.{slice_cmp}
use Rattle.std.specs.List.{list_all}
use Rattle.std.specs.FinMap as finite
use Rattle.std.specs.Map.{keys_of}

-- the addresses with their values, in the order of the addresses
abbrev pub Entries : Type 0
Entries = List (List ℕ × List ℕ)

-- a state: what it has at each address
abbrev pub StateMap : Type 0
StateMap = finite.FinMap (slice_cmp nat_cmp) (List ℕ)

-- the state that has nothing
abbrev pub no_entries : StateMap
no_entries = finite.empty

-- what entries in any order stand for; the first of an address counts
abbrev pub map_of : Entries → StateMap
map_of es = finite.from_entries es

-- what a state has at an address
abbrev pub value_at : StateMap → List ℕ → Option (List ℕ)
value_at m address = finite.get m address

-- 35 bytes
abbrev pub is_address : List ℕ → Bool
is_address q = length q == 35 && list_all (λ b. nat_lt b 256) q

-- each key is an address
abbrev pub AreAddresses : Entries → Type 0
AreAddresses es = list_all is_address (keys_of es) ≡ true

-- a change sets or removes one address
abbrev pub changed_at : StateMap → List ℕ → Option (List ℕ) → StateMap
changed_at m address (Some value) = finite.insert m address value
changed_at m address None = finite.remove m address
