use Rattle.std.proofs.Common.{◌≡◌, [], take, drop}
use Rattle.saw_ids.specs.Seen.{HoldsIds}
use Rattle.saw_plan.specs.BatchShapes.{shapes_of, ids_of}
use Rattle.saw_plan.specs.StaticRules.{Ids, txs_cause}
use Rattle.saw_plan.proofs.causes.txs_cause.Given as goal

-- the cause of all is the cause of the rest
abbrev pub invariant-loop-t : goal.invariant-loop-t
invariant-loop-t g l = record {
  holds : HoldsIds l.earlier (ids_of (shapes_of (take l.t l.txs)));
  so_far : (there : Ids) → g.K.KnownIds.knows l.known there
      → txs_cause there.transactions [] 0 (shapes_of l.txs) ≡ txs_cause there.transactions
      (ids_of (shapes_of (take l.t l.txs))) l.t (shapes_of (drop l.t l.txs));
}
