use Rattle.std.proofs.Common.{◌*◌}
use Rattle.saw_ready.specs.Sets.{Covers, NoneIn}
use Rattle.saw_ready.proofs.set.next_in.Given as goal

abbrev pub invariant-loop-b : goal.invariant-loop-b
invariant-loop-b l = record {
  covers : Covers l.flags l.blocks;
  none : NoneIn l.flags l.from (l.b * 128);
}
