use Rattle.std.proofs.Common.{◌≤◌, ◌-◌, length}
use Rattle.saw_ready.specs.Kept.{IsQueue}
use Rattle.saw_ready.specs.Sets.{NoneIn}
use Rattle.saw_ready.proofs.choice.find_ready.Given as goal

abbrev pub invariant-loop-from : goal.invariant-loop-from
invariant-loop-from l = record {
  queue : IsQueue l.layout l.marks l.first l.cursors l.lowest l.ready;
  none : NoneIn l.ready l.first l.from;
  onward : l.first ≤ l.from;
  within : l.from ≤ length l.marks;
}

abbrev pub decreases-loop-from : goal.decreases-loop-from
decreases-loop-from l = length l.marks - l.from
