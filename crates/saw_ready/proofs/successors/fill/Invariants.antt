use Rattle.std.proofs.Common.{length}
use Rattle.saw_ready.specs.Edges.{begin}
use Rattle.saw_ready.specs.Successors.{AreFilled}
use Rattle.saw_ready.proofs.successors.fill.Given as goal

abbrev pub invariant-loop-k : goal.invariant-loop-k
invariant-loop-k l = AreFilled l.preds (length l.fn.next.items) l.k (begin l.preds l.k) l.next.items l.to.items
