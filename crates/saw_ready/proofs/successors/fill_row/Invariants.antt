use Rattle.std.proofs.Common.{length}
use Rattle.saw_ready.specs.Successors.{AreFilled}
use Rattle.saw_ready.proofs.successors.fill_row.Given as goal

abbrev pub invariant-loop-place : goal.invariant-loop-place
invariant-loop-place l = AreFilled l.preds (length l.fn.next.items) l.k l.place l.next.items l.to.items
