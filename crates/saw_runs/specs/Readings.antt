-- What two tables have under a hash.
use Rattle.std.specs.Prelude.{ℕ, ◌+◌, cond, drop, get_or, length, List, [], ◌∷◌, Option, Some, None}
use Rattle.std.specs.Option.{option_map}
use Rattle.std.specs.Map.{lookup}
use Rattle.std.specs.Str.{bytes_eq}
use Rattle.saw_address.specs.Prefixes.{covers}
use Rattle.saw_node.specs.Nodes.{shape_of}
use Rattle.saw_runs.specs.Tables.{at_byte}
use Rattle.saw_store.specs.Stores.{kept_at}
use Rattle.saw_runs.specs.Entries.{Entry}
use Rattle.saw_runs.specs.Entries.Entry.{OfNode, OfRun}
use Rattle.saw_runs.specs.declared.run.Run as declared_run
use Rattle.saw_runs.specs.declared.tables.Tables.{Tables}
use Rattle.saw_runs.specs.declared.tables.Found.{Found}
use Rattle.saw_runs.specs.declared.tables.Found.TheVariants.{Node, Run}

abbrev pub found_entry : Found → Entry
found_entry (Node node) = OfNode (shape_of node.now)
found_entry (Run run) = OfRun run.now.path.items run.now.bottom

abbrev pub run_entry : declared_run.Run → Entry
run_entry run = OfRun run.path.items run.bottom

-- a run, else a node
abbrev pub either_entry : Option Entry → Option Entry → Option Entry
either_entry (Some entry) below = Some entry
either_entry None below = below

-- what is kept under a hash
abbrev pub read_at : {H : Type 0} → Tables H → List ℕ → Option Entry
read_at tables h = either_entry (option_map run_entry (lookup (bytes_eq h) tables.runs.entries)) (option_map OfNode (kept_at tables.nodes h))

-- one step down from an entry to an address: the depth, and the hash there
abbrev pub stepped : Option Entry → List ℕ → ℕ → Option (ℕ × List ℕ)
stepped None at i = None
stepped (Some (OfRun [] bottom)) at i = None
stepped (Some (OfRun (c ∷ path) bottom)) at i = cond (covers (c ∷ path) (drop i at)) (Some (i + length (c ∷ path), bottom)) None
stepped (Some (OfNode shape)) at i = option_map (λ child. (i + 1, child)) (at_byte (get_or at i 0) shape.children)

-- the value of a leaf
abbrev pub entry_value : Option Entry → Option (List ℕ)
entry_value None = None
entry_value (Some (OfRun path bottom)) = None
entry_value (Some (OfNode shape)) = shape.value
