use Rattle.std.proofs.Common.{length}
use Rattle.indexmap.specs.IndexMap.{values}
use Rattle.saw_plan.specs.StaticRules.{Ids, Knows}
use Rattle.saw_receipts.specs.Branches.{branch_of, ids_in}
use Rattle.saw_journal.proofs.Ids.{CoversIds}
use Rattle.saw_journal.proofs.branch.known_in.Given as goal

abbrev pub invariant-loop-block : goal.invariant-loop-block
invariant-loop-block l = (gathered : Ids) × Knows l.known gathered
    × CoversIds gathered (ids_in l.walk) (ids_in (branch_of (λ block. block) (values l.blocks) l.id))

abbrev pub decreases-loop-block : goal.decreases-loop-block
decreases-loop-block l = length l.walk
