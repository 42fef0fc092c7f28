use Rattle.saw_journal.proofs.FirstHolders.{knows_shared}
use Rattle.saw_journal.proofs.branch_ids.BranchIds.try_share.Goals as goal

pub returns : goal.returns
returns c = λ all holders there.
    knows_shared all holders there c.args.self.now
    (record { blocks = c.in_ok-try_share.field-0; batches = c.in_ok-try_share-2.field-0; transactions = c.in_ok-try_share-3.field-0 })
    c.in_ok-try_share.ensures c.in_ok-try_share-2.ensures c.in_ok-try_share-3.ensures
