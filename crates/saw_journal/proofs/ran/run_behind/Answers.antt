use Rattle.std.proofs.Common.{◌<◌, ◌^◌, List, None, sym, ap, subst, ◌∙◌}
use Rattle.std.proofs.lemmas.Result.{err_from_is_err_and}
use Rattle.saw_context.specs.Possible.{MayComeOfAll}
use Rattle.saw_crew.proofs.Leaving.{keep_all}
use Rattle.saw_crew.specs.Desks.{Failed, offers_at}
use Rattle.saw_messages.specs.TxShapes.{BatchShape}
use Rattle.saw_plan.specs.BatchShapes.{transactions_in, txs_of}
use Rattle.saw_plan.specs.declared.plan.Plan.{Plan}
use Rattle.saw_rules.specs.Policies.{policy_by}
use Rattle.saw_schedule.specs.BatchResults.{AreResultsFor}
use Rattle.saw_station.specs.Serving.{processors_at}
use Rattle.saw_journal.proofs.Passing.{first_dropped_is, policy_is, stopped, then_policy}
use Rattle.saw_journal.proofs.ran.run_behind.Goals as goal

pub returns-in_err-plan_all-clause-ran : goal.returns-in_err-plan_all-clause-ran
returns-in_err-plan_all-clause-ran g c = λ there knows.
    let p = err_from_is_err_and c.from_residual.result c.from_residual.ensures.1 in
    let processors = processors_at g.R.Station.next g.R.Station.tells (offers_at c.args.desks.now) in
    let peer = Failed g.R.Station.faults c.args.desks.now c.args.desks.now in
    let policy = policy_by g.P.BlockPolicy.fault g.P.BlockPolicy.end_fault in
    let m = g.B.Base.entry c.args.base.now in
    rw (p.1, p.2) (stopped processors peer policy m c.args.signer.now there c.args.batches.now c.in_err-plan_all.field-0.0
    (first_dropped_is policy m c.args.signer.now there c.args.batches.now c.in_err-plan_all.field-0.0 (c.in_err-plan_all.ensures.plans there knows)))

pub returns-in_err-test_policy-clause-ran : goal.returns-in_err-test_policy-clause-ran
returns-in_err-test_policy-clause-ran g c = λ there knows.
    let p = err_from_is_err_and c.from_residual-in_err-test_policy.result c.from_residual-in_err-test_policy.ensures.1 in
    let processors = processors_at g.R.Station.next g.R.Station.tells (offers_at c.args.desks.now) in
    let peer = Failed g.R.Station.faults c.args.desks.now c.args.desks.now in
    let policy = policy_by g.P.BlockPolicy.fault g.P.BlockPolicy.end_fault in
    let m = g.B.Base.entry c.args.base.now in
    rw (p.1, p.2) (stopped processors peer policy m c.args.signer.now there c.args.batches.now c.in_err-test_policy.field-0.0
    (policy_is policy m c.args.signer.now there c.args.batches.now c.in_err-test_policy.field-0.0 (c.in_ok-plan_all.ensures.plans there knows).0
    c.in_err-test_policy.ensures))

pub returns-in_err-test_policy-clause-desks : goal.returns-in_err-test_policy-clause-desks
returns-in_err-test_policy-clause-desks g c = keep_all g.R.Station.faults g.R.Station.offered c.args.desks.now

pub returns-in_err-plan_all-clause-desks : goal.returns-in_err-plan_all-clause-desks
returns-in_err-plan_all-clause-desks g c = keep_all g.R.Station.faults g.R.Station.offered c.args.desks.now

pub returns-in_err-plan-clause-desks : goal.returns-in_err-plan-clause-desks
returns-in_err-plan-clause-desks g c = keep_all g.R.Station.faults g.R.Station.offered c.args.desks.now

pub execute-requires-clause-counted : goal.execute-requires-clause-counted
execute-requires-clause-counted g c = λ κs alive.
    let own = ap (λ (plan : Plan). plan.batches) c.in_ok-plan.ensures.ok ∙ (c.in_ok-plan_all.ensures.plans c.requires.ids.0 c.requires.ids.1).1 in
    subst (λ (batches : List BatchShape). transactions_in batches < 2 ^ 32) (sym own) c.requires.counted

pub returns-clause-ran : goal.returns-clause-ran
returns-clause-ran g c = λ there knows.
    let processors = processors_at g.R.Station.next g.R.Station.tells (offers_at c.args.desks.now) in
    let results = c.in_ok-execute.field-0.batches in
    let plans = c.in_ok-plan_all.ensures.plans there knows in
    let own = ap (λ (plan : Plan). plan.batches) c.in_ok-plan.ensures.ok ∙ plans.1 in (
      then_policy (policy_by g.P.BlockPolicy.fault g.P.BlockPolicy.end_fault) (g.B.Base.entry c.args.base.now) c.args.signer.now there
          c.args.batches.now None plans.0 c.in_ok-test_policy.ensures,
      record {
        may = subst (λ (batches : List BatchShape). MayComeOfAll processors (g.B.Base.entry c.args.base.now) (txs_of batches) results) own
            c.in_ok-execute.ensures.results;
        fit = subst (λ (batches : List BatchShape). AreResultsFor (txs_of batches) results) own c.in_ok-execute.ensures.whole;
      },
    )
