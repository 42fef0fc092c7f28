use Rattle.std.proofs.Common.{◌≡◌, take}
use Rattle.std.specs.Arc.{arc_value}
use Rattle.saw_plan.specs.SortingSteps.{both}
use Rattle.saw_plan.specs.StaticRules.{Ids}
use Rattle.saw_receipts.specs.Branches.{batch_ids}
use Rattle.saw_journal.specs.KnownBranches.{AddHeld, KnowsWith}
use Rattle.saw_journal.proofs.holding.hold_batches.Given as goal

abbrev pub invariant-loop-batch : goal.invariant-loop-batch
invariant-loop-batch l =
    ((there : Ids) → KnowsWith (arc_value l.block) l.fn.holders l.fn.kept there
    → KnowsWith (arc_value l.block) l.holders l.kept (both there (batch_ids (take l.batch-index l.batches))))
    × AddHeld (arc_value l.block) l.fn.holders l.holders × (l.kept.blocks ≡ l.fn.kept.blocks)
