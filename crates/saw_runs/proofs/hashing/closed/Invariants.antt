use Rattle.std.proofs.Common.{take}
use Rattle.saw_runs.specs.Changes.{ClosesAll}
use Rattle.saw_runs.proofs.hashing.closed.Given as goal

-- those up to here are closed
abbrev pub invariant-loop-at : goal.invariant-loop-at
invariant-loop-at g l = ClosesAll g.H.NodeHasher.hash_of (take l.at l.kids) l.children.items l.fn.news.items l.news.items
