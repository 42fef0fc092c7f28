use Rattle.std.proofs.Common.{◌≡◌, length}
use Rattle.saw_ready.specs.Hits.{AreHitsTo}
use Rattle.saw_ready.proofs.hits.spread_members.Given as goal

abbrev pub invariant-loop-m : goal.invariant-loop-m
invariant-loop-m l = record {
  long : length l.hits ≡ length l.fn.hits;
  so_far : AreHitsTo l.layout.preds l.first l.end l.m l.end l.hits;
}
