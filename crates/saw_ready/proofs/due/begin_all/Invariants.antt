use Rattle.std.proofs.Common.{◌≡◌, ◌<◌, ℕ, length, get_or}
use Rattle.saw_ready.specs.Cursors.{IsDue}
use Rattle.saw_ready.specs.Edges.{begin}
use Rattle.saw_ready.specs.Hits.{IsIn}
use Rattle.saw_ready.proofs.due.begin_all.Given as goal

abbrev pub invariant-loop-k : goal.invariant-loop-k
invariant-loop-k l = record {
  points : length l.cursors.items ≡ length l.marks;
  flags : length l.ready ≡ length l.marks;
  begun : (i : ℕ) → i < l.k → get_or l.cursors.items i 0 ≡ begin l.preds i;
  ready : (i : ℕ) → i < l.k → IsDue l.preds l.marks l.cursors.items i → IsIn l.ready i;
}
