use Rattle.std.proofs.Common.{take}
use Rattle.saw_predtree.specs.Puts.{KeepsMarks, PutsWriters}
use Rattle.saw_predtree.proofs.put.put_writers.Given as goal

abbrev pub invariant-loop-key : goal.invariant-loop-key
invariant-loop-key l = record {
  puts : PutsWriters l.fn.places l.places l.index (take l.key-index l.keys);
  marks : KeepsMarks l.fn.lengths l.fn.places l.lengths l.places;
}
