use Rattle.std.proofs.Common.{List, ◌++◌, append-nil, subst, take, ◌∙◌}
use Rattle.std.proofs.lemmas.List.{take_all}
use Rattle.saw_plan.specs.BatchShapes.{shapes_of, ids_of}
use Rattle.saw_plan.specs.StaticRules.{with_transactions}
use Rattle.saw_plan.proofs.Fronts.{behind_error, ids-take}
use Rattle.saw_plan.proofs.Transactions.{all_ids_more}
use Rattle.saw_plan.proofs.drops.add_txs.Goals as goal

pub loop-tx-init : goal.loop-tx-init
loop-tx-init g c = λ there known. rw (append-nil there.transactions) known

pub loop-tx-preserved : goal.loop-tx-preserved
loop-tx-preserved g c = λ there known.
    let at = c.loop-tx.tx-index in
    let txs = c.args.txs.now in
    subst (λ (ids : List (List _)). g.K.KnownIds.knows c.add_transaction.new.self (record { batches = there.batches; transactions = ids }))
    (all_ids_more txs at c.tx-item.result c.loop-tx-test.true c.tx-item.is _ (c.behind-tx.view_is ∙ c.deref.ensures) there.transactions)
    (c.in_ok-add_transaction.ensures.ok (with_transactions there (ids_of (shapes_of (take at txs)))) (c.loop-tx.invariant there known))

pub returns-clause-ok : goal.returns-clause-ok
returns-clause-ok g c = λ there known.
    let all = take_all c.loop-tx.tx-index c.args.txs.now c.loop-tx-test.false in
    rw (← all) (c.loop-tx.invariant there known)

pub returns-in_err-add_transaction-clause-front : goal.returns-in_err-add_transaction-clause-front
returns-in_err-add_transaction-clause-front g c =
    behind_error c.from_residual.result
    (λ there known.
    let at = c.loop-tx.tx-index in
    let txs = c.args.txs.now in (
      at,
      subst
          (λ (ids : List (List _)). g.K.KnownIds.knows c.add_transaction.new.self (record { batches = there.batches; transactions = there.transactions ++ ids }))
          (ids-take at txs)
          (c.in_err-add_transaction.ensures.same (with_transactions there (ids_of (shapes_of (take at txs)))) (c.loop-tx.invariant there known)),
    ))
