use Rattle.saw_journal.proofs.FirstHolders.{knows_none}
use Rattle.saw_journal.proofs.branch_ids.BranchIds.new.Goals as goal

pub returns : goal.returns
returns c = λ all holders.
    knows_none all holders (record { blocks = c.new.result; batches = c.new-2.result; transactions = c.new-3.result }) c.new.ensures c.new-2.ensures
    c.new-3.ensures
