use Rattle.std.proofs.Common.{◌≡◌, drop, take}
use Rattle.saw_plan.specs.StaticRules.{Ids, after_batches}
use Rattle.saw_plan.specs.SortingSteps.{sorting_of}
use Rattle.saw_plan.proofs.Rest.{SortsRest}
use Rattle.saw_plan.proofs.drops.precheck_by.Given as goal

abbrev pub invariant-loop-place : goal.invariant-loop-place
invariant-loop-place g l = (there : Ids) → g.K.KnownIds.knows l.fn.known there → (now : Ids) × g.K.KnownIds.knows l.known now
    × SortsRest there now l.place (drop l.place l.batches) l.batches (sorting_of l.sorted)
    × (now ≡ after_batches there (take l.place l.batches))
