use Rattle.std.proofs.Common.{◌≡◌, ◌<◌, ◌+◌, ℕ, length, get_or}
use Rattle.saw_ready.specs.Edges.{begin}
use Rattle.saw_ready.specs.Successors.{left}
use Rattle.saw_ready.proofs.successors.count_targets.Given as goal

abbrev pub invariant-loop-place : goal.invariant-loop-place
invariant-loop-place l = record {
  long : length l.counts.items ≡ length l.fn.counts.items;
  so_far : (j : ℕ) → j < length l.fn.counts.items
      → get_or l.counts.items j 0 + left l.preds (length l.fn.counts.items) j l.place ≡ left l.preds (length l.fn.counts.items) j
      (begin l.preds 0);
}
