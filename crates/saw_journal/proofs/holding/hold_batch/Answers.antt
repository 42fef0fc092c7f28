use Rattle.std.proofs.Common.{◌++◌, List, map, subst}
use Rattle.std.proofs.lemmas.Result.{on_ok_weaker}
use Rattle.saw_messages.specs.declared.receipt.Receipt.{Receipt}
use Rattle.saw_journal.specs.KnownBranches.{Told, holder_in}
use Rattle.saw_journal.proofs.holding.hold_batch.Goals as goal

pub returns-clause-told : goal.returns-clause-told
returns-clause-told c =
    on_ok_weaker c.hold_receipts.result
    (λ more there knows. record {
      knows = record {
        chain = knows.knows.chain;
        has = knows.knows.has;
        batches = c.in_ok-hold.ensures.told knows.knows.chain there.batches knows.here knows.knows.batches;
        transactions = subst (λ (receipts : List Receipt). Told (holder_in c.hold_receipts.new.holders) knows.knows.chain c.hold_receipts.new.others
            (there.transactions ++ map (λ receipt. receipt.transaction_id) receipts)) c.as_slice.ensures
            (more knows.knows.chain there.transactions knows.here knows.knows.transactions);
      };
      here = knows.here;
    })
    c.hold_receipts.ensures.told
