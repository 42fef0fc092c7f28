use Rattle.std.proofs.Common.{◌≡◌, map, take, None}
use Rattle.saw_wire.specs.Pieces.{seen}
use Rattle.saw_wire.specs.Fields.{all_items, item_fault}
use Rattle.saw_wire.specs.MessageReading.{first_fault}
use Rattle.saw_messages.specs.Batches.{batch_of, batch_fault}
use Rattle.saw_messages.proofs.sharing.read_plainly.Given as goal

-- those kept are what the records so far say
abbrev pub invariant-loop-one : goal.invariant-loop-one
invariant-loop-one l = record {
  value : l.kept ≡ all_items batch_of 3 (map (seen l.bytes) (take l.one-index l.part));
  fine : first_fault (item_fault batch_fault 3) (map (seen l.bytes) (take l.one-index l.part)) ≡ None;
}
