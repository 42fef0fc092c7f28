-- What a follower makes of the state changes that blocks tell.
use Rattle.std.specs.Prelude.{ℕ, List, [], map, Some, None, Result, Ok, Err, ◌==◌, if◌then◌else◌}
use Rattle.hex.specs.Hex.{decode_of}
use Rattle.hex.specs.declared.error.FromHexError.{FromHexError}
use Rattle.saw_messages.specs.declared.outcome.Change.{Change}
use Rattle.saw_messages.specs.declared.receipt.StateChange.{StateChange}
use Rattle.saw_receipts.specs.declared.block.BlockRecord.{BlockRecord}
use Rattle.saw_wire.specs.MessageReading.{reading}
use Rattle.saw_wire.specs.declared.fault.MessageFault.{MessageFault}
use Rattle.saw_events.specs.Events.{changes_in, last_changes}
use Rattle.saw_events.specs.Messages.{changes_fault, changes_of}
use Rattle.saw_events.specs.declared.change_list.StateChangeList.{StateChangeList}

-- the changes that bytes say
abbrev pub change_list : List ℕ → Result StateChangeList MessageFault
change_list bytes = reading changes_of changes_fault bytes

-- the bytes of digits, where they are digits
abbrev pub bytes_in : Result (List ℕ) FromHexError → List ℕ
bytes_in (Ok bytes) = bytes
bytes_in (Err fault) = []

-- a change as it is applied: kind 2 takes the entry away, any other sets its value
abbrev pub change_of : StateChange → Change
change_of told = record {
  address = bytes_in (decode_of told.address);
  value = if told.kind == 2 then None else Some told.value;
}

-- what the block's own event says of the state
abbrev pub changes_told : BlockRecord → List Change
changes_told block = map change_of (last_changes (changes_in block))
