-- Receipts, changes and events, as records say them.
use Rattle.std.specs.Prelude.{◌++◌, List, ℕ, Option, Result}
use Rattle.saw_wire.specs.Pieces.{Piece}
use Rattle.saw_wire.specs.Writing.{bytes_pieces, number_pieces}
use Rattle.saw_wire.specs.Written.{items_pieces, texts_pieces}
use Rattle.saw_wire.specs.Fields.{all_bytes, all_items, item_fault, last_bytes, last_small, text_fault}
use Rattle.saw_wire.specs.MessageReading.{reading}
use Rattle.saw_wire.specs.declared.fault.MessageFault.{MessageFault}
use Rattle.saw_wire.specs.MessageFaults.{◌<|>◌}
use Rattle.saw_messages.specs.declared.receipt.Receipt.{Receipt}
use Rattle.saw_messages.specs.declared.receipt.StateChange.{StateChange}
use Rattle.saw_messages.specs.declared.receipt.Event.{Event}
use Rattle.saw_messages.specs.declared.receipt.Attribute.{Attribute}

-- the attribute that records say
abbrev pub attribute_of : List Piece → Attribute
attribute_of pieces = record {
  key = last_bytes 1 pieces;
  value = last_bytes 2 pieces;
}

abbrev pub attribute_fault : Piece → Option MessageFault
attribute_fault piece = text_fault 1 piece <|> text_fault 2 piece

abbrev pub attribute : List ℕ → Result Attribute MessageFault
attribute bytes = reading attribute_of attribute_fault bytes

-- the records that are written for it
abbrev pub attribute_pieces : Attribute → List Piece
attribute_pieces m = bytes_pieces 1 m.key ++ bytes_pieces 2 m.value

-- the event that records say
abbrev pub event_of : List Piece → Event
event_of pieces = record {
  event_type = last_bytes 1 pieces;
  attributes = all_items attribute_of 2 pieces;
  body = last_bytes 3 pieces;
}

abbrev pub event_fault : Piece → Option MessageFault
event_fault piece = text_fault 1 piece <|> item_fault attribute_fault 2 piece

abbrev pub event : List ℕ → Result Event MessageFault
event bytes = reading event_of event_fault bytes

-- the records that are written for it
abbrev pub event_pieces : Event → List Piece
event_pieces m = bytes_pieces 1 m.event_type ++ items_pieces attribute_pieces 2 m.attributes ++ bytes_pieces 3 m.body

-- the state change that records say
abbrev pub state_change_of : List Piece → StateChange
state_change_of pieces = record {
  address = last_bytes 1 pieces;
  value = last_bytes 2 pieces;
  kind = last_small 3 pieces;
}

abbrev pub state_change_fault : Piece → Option MessageFault
state_change_fault piece = text_fault 1 piece

abbrev pub state_change : List ℕ → Result StateChange MessageFault
state_change bytes = reading state_change_of state_change_fault bytes

-- the records that are written for it
abbrev pub state_change_pieces : StateChange → List Piece
state_change_pieces m = bytes_pieces 1 m.address ++ bytes_pieces 2 m.value ++ number_pieces 3 m.kind

-- the receipt that records say
abbrev pub receipt_of : List Piece → Receipt
receipt_of pieces = record {
  state_changes = all_items state_change_of 1 pieces;
  events = all_items event_of 2 pieces;
  body = all_bytes 3 pieces;
  transaction_id = last_bytes 4 pieces;
}

abbrev pub receipt_fault : Piece → Option MessageFault
receipt_fault piece = item_fault state_change_fault 1 piece <|> item_fault event_fault 2 piece <|> text_fault 4 piece

abbrev pub receipt : List ℕ → Result Receipt MessageFault
receipt bytes = reading receipt_of receipt_fault bytes

-- the records that are written for it
abbrev pub receipt_pieces : Receipt → List Piece
receipt_pieces m = items_pieces state_change_pieces 1 m.state_changes ++ items_pieces event_pieces 2 m.events ++ texts_pieces 3 m.body ++ bytes_pieces 4 m.transaction_id
