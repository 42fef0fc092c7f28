use Rattle.std.proofs.Common.{◌++◌, map, take}
use Rattle.saw_journal.proofs.Ids.{receipt_ids_more}
use Rattle.saw_journal.proofs.branch.add_receipts.Goals as goal

pub loop-receipt-preserved : goal.loop-receipt-preserved
loop-receipt-preserved c = λ ids holds.
    let at = c.loop-receipt.receipt-index in
    let receipts = c.args.receipts.now in
    rw (← receipt_ids_more receipts at c.receipt-item.result c.loop-receipt-test.true c.receipt-item.is ids)
    (c.in_ok-add_id.ensures.ok (ids ++ map (λ receipt. receipt.transaction_id) (take at receipts)) (c.loop-receipt.invariant ids holds)).1
