use Rattle.std.proofs.Common.{◌≡◌, ◌++◌, option_copied, take}
use Rattle.std.specs.List.{filter, flat_map}
use Rattle.saw_events.specs.Telling.{is_told}
use Rattle.saw_events.proofs.events.add_receipts.Given as goal

abbrev pub invariant-loop-receipt : goal.invariant-loop-receipt
invariant-loop-receipt l = l.told
    ≡ l.fn.told ++ filter (is_told (option_copied l.wishes)) (flat_map (λ receipt. receipt.events) (take l.receipt-index l.receipts))
