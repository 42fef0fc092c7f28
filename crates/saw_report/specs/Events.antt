-- The lines of events.
use Rattle.std.specs.Prelude.{ℕ, List, [], ◌∷◌, ◌++◌, codes}
use Rattle.std.specs.List.{flat_map}
use Rattle.hex.specs.Hex.{encode_lower}
use Rattle.saw_events.specs.declared.told.BlockEvents.{BlockEvents}
use Rattle.saw_messages.specs.Receipts.{event_pieces}
use Rattle.saw_messages.specs.declared.receipt.Event.{Event}
use Rattle.saw_wire.specs.Writing.{spelled}

-- an event of the block of this id
abbrev pub event_line : List ℕ → Event → List ℕ
event_line id event = id ++ codes " " ++ encode_lower (spelled (event_pieces event)) ++ 10 ∷ []

-- those of a block
abbrev pub events_lines : BlockEvents → List ℕ
events_lines told = flat_map (event_line told.id) told.events
