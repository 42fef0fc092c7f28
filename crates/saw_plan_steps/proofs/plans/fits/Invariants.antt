use Rattle.std.proofs.Common.{◌≡◌, ◌+◌, take}
use Rattle.saw_plan.specs.BatchShapes.{transactions_in}
use Rattle.saw_plan_steps.proofs.plans.fits.Given as goal

abbrev pub invariant-loop-batch : goal.invariant-loop-batch
invariant-loop-batch l = transactions_in (take l.batch-index l.batches) + l.room ≡ 0xffffffff
