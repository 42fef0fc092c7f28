use Rattle.saw_journal.proofs.Chains.{branch_is_chain, only_chain}
use Rattle.saw_journal.proofs.laws.branch_is_chain.Goals as goal

pub returns : goal.returns
returns c = λ blocks linked id has. (branch_is_chain blocks linked id has, only_chain blocks linked id)
