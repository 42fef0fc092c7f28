use Rattle.std.proofs.Common.{◌≡◌, ◌++◌, length, map, reverse}
use Rattle.indexmap.specs.IndexMap.{values}
use Rattle.saw_receipts.specs.Branches.{branch_of}
use Rattle.saw_queries.specs.Queries.{branch_receipts}
use Rattle.saw_queries.proofs.receipts.receipts_of_branch.Given as goal

abbrev pub invariant-loop-block : goal.invariant-loop-block
invariant-loop-block l = l.made.items ++ branch_receipts (reverse (map (λ block. block.now) l.left.items))
    ≡ branch_receipts (branch_of (λ block. block) (values l.blocks) l.head)

abbrev pub decreases-loop-block : goal.decreases-loop-block
decreases-loop-block l = length l.left.items
