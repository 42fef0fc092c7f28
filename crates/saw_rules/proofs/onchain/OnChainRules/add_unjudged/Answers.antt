use Rattle.saw_rules.proofs.Standing.{leaves}
use Rattle.saw_rules.proofs.onchain.OnChainRules.add_unjudged.Goals as goal

pub returns : goal.returns
returns c = leaves c.add.result _ _ (λ all m signer before batch stands are.
    all m signer before batch (c.in_ok-count.ensures.ok m signer before batch stands are) are) c.add.ensures
