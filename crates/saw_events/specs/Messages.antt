-- The changes of a block, as records say them.
use Rattle.std.specs.Prelude.{List, Option}
use Rattle.saw_wire.specs.Pieces.{Piece}
use Rattle.saw_wire.specs.Written.{items_pieces}
use Rattle.saw_wire.specs.Fields.{all_items, item_fault}
use Rattle.saw_wire.specs.declared.fault.MessageFault.{MessageFault}
use Rattle.saw_messages.specs.Receipts.{state_change_fault, state_change_of, state_change_pieces}
use Rattle.saw_events.specs.declared.change_list.StateChangeList.{StateChangeList}

-- the changes that records say
abbrev pub changes_of : List Piece → StateChangeList
changes_of pieces = record { state_changes = all_items state_change_of 1 pieces }

abbrev pub changes_fault : Piece → Option MessageFault
changes_fault piece = item_fault state_change_fault 1 piece

-- the records that are written for them
abbrev pub changes_pieces : StateChangeList → List Piece
changes_pieces m = items_pieces state_change_pieces 1 m.state_changes
