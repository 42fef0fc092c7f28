use Rattle.std.proofs.Common.{◌≡◌, ℕ, List}
use Rattle.saw_context.proofs.Runs.{put_all}
use Rattle.saw_context.proofs.layers.put_over.Given as goal

abbrev pub invariant-loop-at : goal.invariant-loop-at
invariant-loop-at l = (q : List ℕ) → put_all l.run l.at-iterator q ≡ put_all l.fn.run l.newer.marks.entries q
