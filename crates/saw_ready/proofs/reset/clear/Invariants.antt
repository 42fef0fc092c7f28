use Rattle.std.proofs.Common.{◌≡◌, ◌≤◌, ◌-◌, length}
use Rattle.saw_ready.specs.Sets.{NoneIn}
use Rattle.saw_ready.proofs.reset.clear.Given as goal

abbrev pub invariant-loop-from : goal.invariant-loop-from
invariant-loop-from l = record {
  long : length l.hits ≡ length l.fn.hits;
  none : NoneIn l.hits 0 l.from;
  within : l.from ≤ l.count;
}

abbrev pub decreases-loop-from : goal.decreases-loop-from
decreases-loop-from l = l.count - l.from
