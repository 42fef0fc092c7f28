use Rattle.std.proofs.Common.{◌≡◌, ◌++◌, length, map, reverse}
use Rattle.indexmap.specs.IndexMap.{values}
use Rattle.saw_receipts.specs.Branches.{branch_of}
use Rattle.saw_queries.proofs.branch.branch_back.Given as goal

abbrev pub invariant-loop-block : goal.invariant-loop-block
invariant-loop-block l = l.walk ++ reverse (map (λ block. block.now) l.found.items) ≡ branch_of (λ block. block) (values l.blocks) l.head

abbrev pub decreases-loop-block : goal.decreases-loop-block
decreases-loop-block l = length l.walk
