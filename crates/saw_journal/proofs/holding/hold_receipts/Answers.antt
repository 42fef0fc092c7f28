use Rattle.std.proofs.Common.{◌++◌, ℕ, List, map, subst, take}
use Rattle.std.specs.Arc.{arc_value}
use Rattle.saw_journal.specs.KnownBranches.{Told, holder_in}
use Rattle.saw_journal.proofs.FirstHolders.{adds_both}
use Rattle.saw_journal.proofs.Ids.{receipt_ids_more}
use Rattle.saw_journal.proofs.holding.hold_receipts.Goals as goal

pub loop-receipt-preserved : goal.loop-receipt-preserved
loop-receipt-preserved c =
    let at = c.loop-receipt.receipt-index in
    let receipts = c.args.receipts.now in (
      λ chain ids here told.
          subst (λ (ids : List (List ℕ)). Told (holder_in c.hold.new.holders) chain c.hold.new.others ids)
          (receipt_ids_more receipts at c.receipt-item.result c.loop-receipt-test.true c.receipt-item.is ids)
          (c.in_ok-hold.ensures.told chain (ids ++ map (λ receipt. receipt.transaction_id) (take at receipts)) here
          (c.loop-receipt.invariant.0 chain ids here told)),
      adds_both (arc_value c.args.block.now) c.args.holders.now c.loop-receipt.holders c.hold.new.holders c.loop-receipt.invariant.1 c.in_ok-hold.ensures.adds,
    )

pub returns-in_err-hold-clause-adds : goal.returns-in_err-hold-clause-adds
returns-in_err-hold-clause-adds c =
    adds_both (arc_value c.args.block.now) c.args.holders.now c.loop-receipt.holders c.hold.new.holders c.loop-receipt.invariant.1 c.in_err-hold.ensures.adds
