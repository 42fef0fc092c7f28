use Rattle.std.proofs.Common.{◌≡◌, ◌≤◌, ◌-◌, length}
use Rattle.saw_ready.specs.Undone.{AreHitsNoted}
use Rattle.saw_ready.proofs.undone.note_hits.Given as goal

abbrev pub invariant-loop-k : goal.invariant-loop-k
invariant-loop-k l = record {
  same : l.hits ≡ l.fn.hits;
  within : l.from ≤ length l.hits;
  so_far : AreHitsNoted l.marks l.hits l.from l.fn.undone l.undone;
}

abbrev pub decreases-loop-k : goal.decreases-loop-k
decreases-loop-k l = length l.hits - l.from
