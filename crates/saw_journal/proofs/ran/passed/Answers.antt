use Rattle.std.proofs.lemmas.Result.{err_from_is_err_and}
use Rattle.saw_rules.specs.Policies.{policy_by}
use Rattle.saw_journal.proofs.Passing.{first_dropped_is, passes_by}
use Rattle.saw_journal.proofs.ran.passed.Goals as goal

pub returns-in_err-_plan : goal.returns-in_err-_plan
returns-in_err-_plan g c = λ there knows.
    let p = err_from_is_err_and c.from_residual.result c.from_residual.ensures.1 in
    let policy = policy_by g.P.BlockPolicy.fault g.P.BlockPolicy.end_fault in
    rw (p.1, p.2) (first_dropped_is policy (g.B.Base.entry c.args.base.now) c.args.signer.now there c.args.batches.now c.in_err-_plan.field-0.0
    (c.in_err-_plan.ensures.plans there knows))

pub returns : goal.returns
returns g c = λ there knows.
    let policy = policy_by g.P.BlockPolicy.fault g.P.BlockPolicy.end_fault in
    passes_by policy (g.B.Base.entry c.args.base.now) c.args.signer.now there c.args.batches.now c.test_policy.result
    (c.in_ok-_plan.ensures.plans there knows).0 c.test_policy.ensures
