use Rattle.std.proofs.Common.{◌≡◌, length}
use Rattle.std.specs.Option.{option_or}
use Rattle.std.specs.Prelude.{option_copied}
use Rattle.indexmap.specs.IndexMap.{values}
use Rattle.saw_receipts.specs.Branches.{branch_of}
use Rattle.saw_queries.specs.Queries.{block_with}
use Rattle.saw_queries.proofs.status.status_of.Given as goal

abbrev pub invariant-loop-block : goal.invariant-loop-block
invariant-loop-block l = option_or (block_with l.batch l.walk) (option_copied l.found)
    ≡ block_with l.batch (branch_of (λ block. block) (values l.blocks) l.head)

abbrev pub decreases-loop-block : goal.decreases-loop-block
decreases-loop-block l = length l.walk
