use Rattle.std.proofs.Common.{◌≡◌, map, take, None}
use Rattle.saw_wire.specs.Pieces.{seen}
use Rattle.saw_wire.specs.MessageReading.{first_fault}
use Rattle.saw_messages.specs.Blocks.{block_of, block_fault}
use Rattle.saw_messages.proofs.sharing.read_front.Given as goal

-- the block is what the records so far say
abbrev pub invariant-loop-one : goal.invariant-loop-one
invariant-loop-one l = record {
  value : l.block ≡ block_of (map (seen l.bytes) (take l.one-index l.front));
  fine : first_fault block_fault (map (seen l.bytes) (take l.one-index l.front)) ≡ None;
}
