use Rattle.std.specs.declared.sync.Arc.{Arc}
use Rattle.std.specs.Global.{Global}
use Rattle.std.proofs.Common.{List, subst}
use Rattle.std.proofs.lemmas.Result.{on_ok_weaker}
use Rattle.saw_messages.specs.declared.tx.Tx.{Tx}
use Rattle.saw_plan.specs.BatchShapes.{shapes_of, ids_of}
use Rattle.saw_plan.specs.StaticRules.{with_batch_id, with_transactions}
use Rattle.saw_plan.proofs.drops.add_batch.Goals as goal

pub returns-clause-ok : goal.returns-clause-ok
returns-clause-ok g c =
    rw (← c.batch.view_is) (on_ok_weaker c.add_txs.result
    (λ added there known.
    subst (λ (txs : List (Arc Tx Global)). g.K.KnownIds.knows c.add_txs.new.known (with_transactions (with_batch_id there c.batch.inside.id) (ids_of (shapes_of txs))))
    c.as_slice.ensures (added (with_batch_id there c.batch.inside.id) (c.in_ok-add_batch.ensures.ok there known)))
    c.add_txs.ensures.ok)
