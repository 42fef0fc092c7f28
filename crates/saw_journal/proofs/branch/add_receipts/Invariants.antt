use Rattle.std.proofs.Common.{◌++◌, ℕ, List, map, take}
use Rattle.saw_ids.specs.Seen.{HoldsIds}
use Rattle.saw_journal.proofs.branch.add_receipts.Given as goal

abbrev pub invariant-loop-receipt : goal.invariant-loop-receipt
invariant-loop-receipt l = (ids : List (List ℕ)) → HoldsIds l.fn.seen ids
    → HoldsIds l.seen (ids ++ map (λ receipt. receipt.transaction_id) (take l.receipt-index l.receipts))
