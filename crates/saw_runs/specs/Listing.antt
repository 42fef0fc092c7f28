-- The map that a root stands for, as it is read from there on.
use Rattle.std.specs.Prelude.{ℕ, zero, suc, List, [], ◌∷◌, ◌++◌, Option, Some, None}
use Rattle.std.specs.List.{flat_map}
use Rattle.std.specs.FinMap as finite
use Rattle.saw_address.specs.Maps.{Entries, StateMap}
use Rattle.saw_runs.specs.Entries.{Entry}
use Rattle.saw_runs.specs.Entries.Entry.{OfNode, OfRun}
use Rattle.saw_runs.specs.Lowers.{children_read}
use Rattle.saw_runs.specs.Readings.{entry_value}

-- an entry, where there is a value
abbrev pub entry_at : List ℕ → Option (List ℕ) → Entries
entry_at place None = []
entry_at place (Some value) = (place, value) ∷ []

-- the bytes of the run that is kept under a hash, and the hash at its end; no bytes, and the hash itself, where no run is
abbrev pub opened_by : List ℕ → Option Entry → List ℕ × List ℕ
opened_by h (Some (OfRun path bottom)) = (path, bottom)
opened_by h (Some (OfNode shape)) = ([], h)
opened_by h None = ([], h)

-- the entries below a place, so many levels above the values, by the bytes of a run down from there and the hash at its end
unfoldable pub read_below : (List ℕ → Option Entry) → ℕ → List ℕ → List ℕ → List ℕ → Entries
read_below read zero place [] bottom = entry_at place (entry_value (read bottom))
read_below read zero place (c ∷ path) bottom = []
read_below read (suc levels) place [] bottom = flat_map (λ child.
    read_below read levels (place ++ child.0 ∷ []) (opened_by child.1 (read child.1)).0 (opened_by child.1 (read child.1)).1)
    (children_read (read bottom))
read_below read (suc levels) place (c ∷ path) bottom = read_below read levels (place ++ c ∷ []) path bottom

-- the map of a root
abbrev pub map_read : (List ℕ → Option Entry) → List ℕ → StateMap
map_read read root = finite.from_entries (read_below read 35 [] (opened_by root (read root)).0 (opened_by root (read root)).1)
