use Rattle.std.proofs.Common.{◌≡◌, Some, None, map, not, option_map, position, ap, sym, ◌∙◌}
use Rattle.std.specs.Arc.{arc_value}
use Rattle.saw_checks.specs.declared.policy.PolicyFault.TheVariants as faults
use Rattle.saw_messages.specs.TxShapes.{TxShape}
use Rattle.saw_rules.specs.OnChainRules.{is_allowed}
use Rattle.saw_rules.proofs.judging.family_fault.Goals as goal

pub returns-in_ok-small-in-Some-other_in : goal.returns-in_ok-small-in-Some-other_in
returns-in_ok-small-in-Some-other_in c =
    let found : Some c.in-Some-other_in.t ≡ position (λ (tx : TxShape). not (is_allowed c.in-Some.families tx)) (map arc_value c.args.txs.now) =
    rw (← c.as_slice.ensures) c.in-Some-other_in.ensures in
    rw (c.in-Some.is, c.in_ok-small-in-Some-other_in.ensures) (ap (option_map faults.Family) found)

pub returns-in-None : goal.returns-in-None
returns-in-None c =
    let found : None ≡ position (λ (tx : TxShape). not (is_allowed c.in-Some.families tx)) (map arc_value c.args.txs.now) =
    rw (← c.as_slice.ensures) c.in-None.ensures in
    rw c.in-Some.is (ap (option_map faults.Family) found)
