use Rattle.std.proofs.Common.{take}
use Rattle.saw_plan.specs.StaticRules.{Ids, Knows}
use Rattle.saw_plan.specs.SortingSteps.{both}
use Rattle.saw_receipts.specs.Branches.{batch_ids}
use Rattle.saw_journal.proofs.branch.add_batches.Given as goal

abbrev pub invariant-loop-batch : goal.invariant-loop-batch
invariant-loop-batch l = (there : Ids) → Knows l.fn.known there → Knows l.known (both there (batch_ids (take l.batch-index l.batches)))
