use Rattle.std.proofs.Common.{◌≡◌, true, ◌++◌, ℕ, List, map, take}
use Rattle.std.specs.Arc.{arc_value}
use Rattle.saw_ids.specs.Seen.{is_among}
use Rattle.saw_journal.specs.KnownBranches.{AddsHeld, Told, holder_in}
use Rattle.saw_journal.proofs.holding.hold_receipts.Given as goal

abbrev pub invariant-loop-receipt : goal.invariant-loop-receipt
invariant-loop-receipt l =
    ((chain ids : List (List ℕ)) → is_among chain (arc_value l.block) ≡ true → Told (holder_in l.fn.holders) chain l.fn.others ids
    → Told (holder_in l.holders) chain l.others (ids ++ map (λ receipt. receipt.transaction_id) (take l.receipt-index l.receipts)))
    × AddsHeld (arc_value l.block) l.fn.holders l.holders
