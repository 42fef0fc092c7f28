use Rattle.saw_rules.proofs.Standing.{leaves_all}
use Rattle.saw_rules.proofs.onchain.OnChainRules.fault_of.Goals as goal

pub returns-clause-fault : goal.returns-clause-fault
returns-clause-fault c = λ m signer before batch stands are.
    c.fault_in.ensures m signer before batch (c.in_ok-count.ensures.ok m signer before batch stands are) are

pub returns-clause-looked : goal.returns-clause-looked
returns-clause-looked c = λ m signer before batch stands are.
    leaves_all c.fault_in.result _ (c.in_ok-count.ensures.ok m signer before batch stands are)
