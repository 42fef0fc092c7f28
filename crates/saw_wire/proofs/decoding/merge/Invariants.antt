use Rattle.std.proofs.Common.{◌≡◌, List, ◌++◌, map, take, None}
use Rattle.saw_wire.specs.Pieces.{Piece, seen}
use Rattle.saw_wire.specs.MessageReading.{first_fault}
use Rattle.saw_wire.proofs.decoding.merge.Given as goal

abbrev pub invariant-loop-one : goal.invariant-loop-one
invariant-loop-one g l = record {
  value : (pieces : List Piece) → l.fn.message ≡ g.M.Message.of pieces
      → l.message ≡ g.M.Message.of (pieces ++ map (seen l.bytes) (take l.one-index l.one-items));
  fine : first_fault g.M.Message.fault (map (seen l.bytes) (take l.one-index l.one-items)) ≡ None;
}
