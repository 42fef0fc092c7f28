use Rattle.saw_journal.proofs.Chains.{kept_branch_is}
use Rattle.saw_journal.proofs.laws.kept_branch_is.Goals as goal

pub returns : goal.returns
returns c = kept_branch_is
