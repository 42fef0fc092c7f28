use Rattle.std.proofs.Common.{take}
use Rattle.saw_plan.specs.BatchShapes.{shapes_of, ids_of}
use Rattle.saw_plan.specs.StaticRules.{Ids, with_transactions}
use Rattle.saw_plan.proofs.drops.add_txs.Given as goal

abbrev pub invariant-loop-tx : goal.invariant-loop-tx
invariant-loop-tx g l = (there : Ids) → g.K.KnownIds.knows l.fn.known there
    → g.K.KnownIds.knows l.known (with_transactions there (ids_of (shapes_of (take l.tx-index l.txs))))
