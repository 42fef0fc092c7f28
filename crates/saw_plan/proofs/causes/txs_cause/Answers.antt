use Rattle.std.proofs.Common.{take, sym, ◌∙◌}
use Rattle.saw_plan.specs.BatchShapes.{shapes_of, ids_of}
use Rattle.saw_plan.proofs.Transactions.{ids_more, cause_later}
use Rattle.saw_plan.proofs.causes.txs_cause.Goals as goal

pub loop-t-preserved : goal.loop-t-preserved
loop-t-preserved g c =
    let i = c.loop-t.invariant in
    let at = c.loop-t.t in
    let txs = c.args.txs.now in
    let tx = c.index-txs-t.result in
    let ids = ids_of (shapes_of (take at txs)) in
    record {
      holds = rw (← ids_more txs at tx c.loop-t-test.true c.index-txs-t.is _ (c.behind-tx.view_is ∙ c.deref-in-loop-t.ensures))
          (c.in_ok-add_id.ensures.ok ids i.holds).1;
      so_far = λ there known.
          cause_later txs at tx c.loop-t-test.true c.index-txs-t.is c.deref.result.now c.deref.ensures there.transactions
          (i.so_far there known)
          (sym c.in_default.is ∙ c.in_ok-cause.ensures there ids known i.holds);
    }
