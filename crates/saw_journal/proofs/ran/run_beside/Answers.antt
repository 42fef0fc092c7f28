use Rattle.std.proofs.Common.{[]}
use Rattle.std.proofs.lemmas.Result.{err_from_is_err_and}
use Rattle.saw_rules.specs.Policies.{policy_by}
use Rattle.saw_station.specs.Serving.{processors_at}
use Rattle.saw_journal.proofs.Passing.{stopped}
use Rattle.saw_journal.proofs.ran.run_beside.Goals as goal

pub returns-in_err-passed : goal.returns-in_err-passed
returns-in_err-passed g c = λ there knows.
    let p = err_from_is_err_and c.from_residual.result c.from_residual.ensures.1 in
    let policy = policy_by g.P.BlockPolicy.fault g.P.BlockPolicy.end_fault in
    rw (p.1, p.2) (stopped (processors_at g.R.Station.next g.R.Station.tells []) ⊥ policy (g.B.Base.entry c.args.base.now) c.args.signer.now there
    c.args.batches.now c.in_err-passed.field-0.0 (rw c.in_err-passed.was at c.join-results.ensures.second there knows))

pub returns-in_err-results : goal.returns-in_err-results
returns-in_err-results g c = λ there knows.
    let p = err_from_is_err_and c.from_residual-in_err-results.result c.from_residual-in_err-results.ensures.1 in rw (p.1, p.2) tt

pub returns : goal.returns
returns g c = λ there knows. (rw c.in_ok-passed.was at c.join-results.ensures.second there knows, rw c.in_ok-results.was at c.join-results.ensures.first)
