use Rattle.std.proofs.Common.{◌≡◌, ◌++◌, take}
use Rattle.saw_queries.proofs.receipts.add_receipts.Given as goal

abbrev pub invariant-loop-receipt : goal.invariant-loop-receipt
invariant-loop-receipt l = l.made.items ≡ l.fn.made.items ++ take l.receipt-index l.receipts
