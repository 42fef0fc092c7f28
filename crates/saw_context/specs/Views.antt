-- A base with the changes of earlier transactions on top.
use Rattle.std.specs.Prelude.{ℕ, List, map, Option, Some, None}
use Rattle.std.specs.Ordering.{nat_cmp}
use Rattle.std.specs.Cmp.Lexicographic.{slice_cmp}
use Rattle.std.specs.FinMap as finite
use Rattle.std.specs.List.{list_any}
use Rattle.saw_address.specs.Maps.{StateMap}
use Rattle.saw_address.specs.Prefixes.{covers}
use Rattle.saw_messages.specs.declared.outcome.Change.{Change}
use Rattle.saw_context.specs.Outcome.{map_after}
use Rattle.saw_context.specs.declared.view.View.{View}
use Rattle.saw_context.specs.declared.view.ViewEntry.{ViewEntry}

-- what earlier transactions left at each address, with the number of the one that did
abbrev pub Layers : Type 0
Layers = finite.FinMap (slice_cmp nat_cmp) ViewEntry

-- what a transaction may read of it
abbrev pub layers_of : View → Layers
layers_of view = finite.retain_keys view.layers (λ at. list_any (λ prefix. covers prefix at) view.inputs.items)

abbrev pub changes_in : Layers → List Change
changes_in layers = map (λ entry. record { address = entry.0; value = entry.1.value }) (finite.entries layers)

-- the map with the view on top
unfoldable pub over : StateMap → Layers → StateMap
over m layers = map_after m (changes_in layers)

-- the view's value where it has an entry, else what is below
abbrev pub layered : Option ViewEntry → Option (List ℕ) → Option (List ℕ)
layered None below = below
layered (Some entry) below = entry.value
