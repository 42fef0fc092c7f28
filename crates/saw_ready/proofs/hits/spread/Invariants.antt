use Rattle.std.proofs.Common.{◌≡◌, ◌≤◌, ◌-◌, length}
use Rattle.saw_ready.specs.Hits.{AreHitsTo}
use Rattle.saw_ready.proofs.hits.spread.Given as goal

abbrev pub invariant-loop-k : goal.invariant-loop-k
invariant-loop-k l = record {
  long : length l.hits ≡ length l.fn.hits;
  within : l.from ≤ length l.hits;
  so_far : AreHitsTo l.layout.preds l.first l.end l.end l.from l.hits;
}

abbrev pub decreases-loop-k : goal.decreases-loop-k
decreases-loop-k l = length l.hits - l.from
