use Rattle.std.proofs.Common.{◌++◌, List, map, subst}
use Rattle.std.proofs.lemmas.Result.{on_ok_weaker}
use Rattle.saw_ids.specs.Seen.{HoldsIds}
use Rattle.saw_messages.specs.declared.receipt.Receipt.{Receipt}
use Rattle.saw_journal.proofs.branch.add_batch.Goals as goal

pub returns : goal.returns
returns c =
    on_ok_weaker c.add_receipts.result
    (λ added there knows. (
      (c.in_ok-add_id.ensures.ok there.batches knows.0).1,
      subst (λ (receipts : List Receipt). HoldsIds c.add_receipts.new.seen (there.transactions ++ map (λ receipt. receipt.transaction_id) receipts))
          c.as_slice.ensures (added there.transactions knows.1),
    ))
    c.add_receipts.ensures
