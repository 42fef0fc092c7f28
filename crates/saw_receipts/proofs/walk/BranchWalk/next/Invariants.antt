use Rattle.std.proofs.Common.{◌≡◌, ◌≤◌, length}
use Rattle.indexmap.specs.IndexMap.{values}
use Rattle.saw_receipts.specs.Walks.{branch_below}
use Rattle.saw_receipts.proofs.walk.BranchWalk.next.Given as goal

abbrev pub invariant-loop-self : goal.invariant-loop-self
invariant-loop-self l = record {
  within : l.self-inside.place ≤ length (values l.self-inside.blocks.now);
  whole : branch_below (values l.self-inside.blocks.now) l.self-inside.place l.self-inside.wanted.now ≡ l.fn.self;
}

abbrev pub decreases-loop-self : goal.decreases-loop-self
decreases-loop-self l = l.self-inside.place
