-- What is listed below a prefix: the way down to it, and what is read from there on.
use Rattle.std.specs.Prelude.{◌≡◌, ◌-◌, ◌≤◌, ℕ, suc, List, [], ◌∷◌, ◌++◌, length, take, Option, Some, None}
use Rattle.std.specs.List.{filter}
use Rattle.saw_address.specs.Maps.{Entries}
use Rattle.saw_address.specs.Prefixes.{covers}
use Rattle.saw_node.specs.declared.node.Child.{Child}
use Rattle.saw_runs.specs.Entries.{Entry}
use Rattle.saw_runs.specs.Listing.{opened_by, read_below}
use Rattle.saw_runs.specs.declared.listing.Listed.{Listed}
use Rattle.saw_runs.specs.declared.listing.Place.{Place}

-- an entry, as a map has it
abbrev pub listed_as : Listed → List ℕ × List ℕ
listed_as one = (one.address, one.value)

-- the entries whose addresses begin with a place
abbrev pub covered_by : List ℕ → Entries → Entries
covered_by place es = filter (λ entry. covers place entry.0) es

-- the entries below a place, by the bytes of a run down from there and the hash at its end; of no run there are none
abbrev pub read_by : (List ℕ → Option Entry) → ℕ → List ℕ → Option (List ℕ × List ℕ) → Entries
read_by read levels place None = []
read_by read levels place (Some run) = read_below read levels place run.0 run.1

-- all entries that are read from a root on
abbrev pub read_from : (List ℕ → Option Entry) → List ℕ → Entries
read_from read root = read_by read 35 [] (Some (opened_by root (read root)))

-- the second run has all that the first one has below a byte
abbrev pub Narrows : (List ℕ → Option Entry) → List ℕ → List ℕ → ℕ → Option (List ℕ × List ℕ) → Type 0
Narrows read path bottom byte below = (levels : ℕ) (place : List ℕ)
    → covered_by (place ++ byte ∷ []) (read_below read (suc levels) place path bottom) ≡ read_by read levels (place ++ byte ∷ []) below

-- the run has all that a root has below a prefix
abbrev pub LeadsTo : (List ℕ → Option Entry) → List ℕ → List ℕ → Option (List ℕ × List ℕ) → Type 0
LeadsTo read root prefix below = covered_by prefix (read_from read root) ≡ read_by read (35 - length prefix) prefix below

-- the entries below a child of the node at a place
abbrev pub entries_below : (List ℕ → Option Entry) → ℕ → List ℕ → Child → Entries
entries_below read levels place child = read_by read levels (place ++ child.byte ∷ []) (Some (opened_by child.hash (read child.hash)))

-- the entries below a node of the tree; of no node there are none
abbrev pub read_under : (List ℕ → Option Entry) → Option Place → Entries
read_under read None = []
read_under read (Some at) = read_below read (35 - at.depth) (take at.depth at.bytes) [] at.hash

-- the node lies so many bytes down, or further
pub record IsDown (depth : ℕ) (at : Place) : Type 0 where
  pub whole : length at.bytes ≡ 35
  pub later : depth ≤ at.depth
  pub within : at.depth ≤ 35
