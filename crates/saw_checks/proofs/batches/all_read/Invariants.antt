use Rattle.std.proofs.Common.{◌≡◌, ◌+◌, ◌++◌, length}
use Rattle.saw_checks.specs.BlockParts.{first_bad, reads_of}
use Rattle.saw_checks.proofs.batches.all_read.Given as goal

-- what was read so far with what is left is the whole
abbrev pub invariant-loop-k : goal.invariant-loop-k
invariant-loop-k l = record {
  places : l.k-iterator.count + length l.k-iterator.iter.rest.items ≡ length l.fn.judged.items;
  bad : first_bad 0 l.fn.judged.items ≡ first_bad l.k-iterator.count l.k-iterator.iter.rest.items;
  read : reads_of l.fn.judged.items ≡ l.reads ++ reads_of l.k-iterator.iter.rest.items;
}
