use Rattle.std.proofs.lemmas.Result.{on_ok_weaker}
use Rattle.saw_journal.proofs.FirstHolders.{one_batch_more}
use Rattle.saw_journal.proofs.branch_ids.BranchViewKnownIds.add_batch.Goals as goal

pub returns-clause-ok : goal.returns-clause-ok
returns-clause-ok c =
    let self = c.args.self.now in
    on_ok_weaker c.insert.result (λ more there knows. one_batch_more self.holders.now self.branch c.insert.new.self there c.args.id.now more knows)
    c.insert.ensures.more
