use Rattle.std.proofs.Common.{◌++◌, take, ◌∙◌}
use Rattle.saw_plan.specs.BatchShapes.{ids_of, shapes_of}
use Rattle.saw_crew.proofs.Depending.{ids-take_seen}
use Rattle.saw_crew.proofs.serial.add_ids.Goals as goal

pub loop-tx-preserved : goal.loop-tx-preserved
loop-tx-preserved c = λ others holds.
    let l = c.loop-tx in
    rw (← ids-take_seen others c.args.txs.now l.tx-index c.tx-item.result _ (c.behind-tx.view_is ∙ c.deref.ensures) c.loop-tx-test.true c.tx-item.is)
    (c.in_ok-add_id.ensures.ok (ids_of (others ++ shapes_of (take l.tx-index c.args.txs.now))) (l.invariant others holds)).1
