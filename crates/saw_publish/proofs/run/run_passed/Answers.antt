use Rattle.std.proofs.Common.{map, ap, ◌∙◌}
use Rattle.saw_crew.proofs.Leaving.{keep_all}
use Rattle.saw_crew.specs.Desks.{offers_at}
use Rattle.saw_merkle.specs.States.{map_at}
use Rattle.saw_station.proofs.Finished.{processors_own}
use Rattle.saw_station.specs.Serving.{processors_at}
use Rattle.saw_publish.specs.Drafts.{run_fate}
use Rattle.saw_publish.proofs.Executed.{few_planned, is_ran}
use Rattle.saw_publish.proofs.run.run_passed.Goals as goal

pub returns-in_err-plan-clause-desks : goal.returns-in_err-plan-clause-desks
returns-in_err-plan-clause-desks g c = keep_all g.R.Station.faults g.R.Station.offered c.args.desks.now

pub returns-in_err-left_out-clause-desks : goal.returns-in_err-left_out-clause-desks
returns-in_err-left_out-clause-desks g c = keep_all g.R.Station.faults g.R.Station.offered c.args.desks.now

pub execute_over-requires-clause-counted : goal.execute_over-requires-clause-counted
execute_over-requires-clause-counted g c =
    λ κs alive. few_planned c.args.known.now c.args.batches.now c.in_ok-plan.field-0 c.in_ok-plan.ensures c.requires.counted

pub returns-clause-ran : goal.returns-clause-ran
returns-clause-ran g c =
    λ there known.
    let laws = g.met.R.Station g.world.𝓛 g.world.𝓜 g.world.𝓡 ((λ s x. x), (λ x. x), (λ x. x), λ x. x) in
    let own = processors_own g.R.Station.next laws.own_reasons g.R.Station.tells (offers_at c.args.desks.now) in
    let processors = processors_at g.R.Station.next g.R.Station.tells (offers_at c.args.desks.now) in
    is_ran processors own (map_at c.args.state.now c.args.before.now) c.args.batches.now c.in_ok-plan.field-0 c.in_ok-results.results.batches
    c.in_ok-results.ensures.results c.in_ok-results.ensures.whole c.in_ok-left_out.left_out c.in_ok-failed.failed c.in_ok-merged.field-0
    c.in_ok-changes.field-0 c.in_ok-left_out.ensures
    (c.in_ok-failed.ensures ∙ ap (map run_fate) c.as_slice.ensures) c.in_ok-merged.ensures c.in_ok-changes.ensures.left c.in_ok-changes.ensures.rising there
    (c.in_ok-plan.ensures there known)
