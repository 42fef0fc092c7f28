use Rattle.std.proofs.Common.{take}
use Rattle.saw_predtree.specs.Puts.{KeepsMarks, PutsReaders}
use Rattle.saw_predtree.proofs.put.put_readers.Given as goal

abbrev pub invariant-loop-key : goal.invariant-loop-key
invariant-loop-key l = record {
  puts : PutsReaders l.fn.places l.places l.index l.written (take l.key-index l.keys);
  marks : KeepsMarks l.fn.lengths l.fn.places l.lengths l.places;
}
