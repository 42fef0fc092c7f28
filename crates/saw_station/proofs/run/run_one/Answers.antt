use Rattle.std.specs.Arc.{arc_value}
use Rattle.saw_context.specs.Outcome.{Processors}
use Rattle.saw_station.proofs.Finished.{if_ok, outcome_in, processors_own, undeclared_comes}
use Rattle.saw_station.specs.RunResults.{IsResult}
use Rattle.saw_station.specs.Serving.{processors_at}
use Rattle.saw_station.proofs.run.run_one.Goals as goal

pub returns-in-Ok-clause-outcome : goal.returns-in-Ok-clause-outcome
returns-in-Ok-clause-outcome g c =
    let laws = g.met.R.Station g.world.𝓛 g.world.𝓜 g.world.𝓡 ((λ s x. x), (λ x. x), (λ x. x), λ x. x) in
    let processors : Processors = processors_at g.R.Station.next g.R.Station.tells c.args.desk.now.offers in
    let job = c.args.job.now in
    if_ok (IsResult processors c.in-Ok.context.base job) _
    (λ done is. outcome_in processors c.in-Ok.context _ (g.B.Base.entry c.args.base.now) _ job done
    (processors_own g.R.Station.next laws.own_reasons g.R.Station.tells c.args.desk.now.offers (arc_value job.tx)) c.in-Ok.ensures.ok
    is) c.run_in.result c.run_in.ensures.done

pub returns-in_ok-refused-in-Err-BadDeclared-clause-outcome : goal.returns-in_ok-refused-in-Err-BadDeclared-clause-outcome
returns-in_ok-refused-in-Err-BadDeclared-clause-outcome g c =
    let laws = g.met.R.Station g.world.𝓛 g.world.𝓜 g.world.𝓡 ((λ s x. x), (λ x. x), (λ x. x), λ x. x) in
    let processors : Processors = processors_at g.R.Station.next g.R.Station.tells c.args.desk.now.offers in
    let job = c.args.job.now in
    undeclared_comes processors job c.in_ok-refused-in-Err-BadDeclared.field-0 _ c.in-Err-BadDeclared.field-0 c.deref.result.now
    (processors_own g.R.Station.next laws.own_reasons g.R.Station.tells c.args.desk.now.offers (arc_value job.tx))
    c.deref.ensures c.in-Err-BadDeclared.field-0-is c.in-Err-BadDeclared.ensures.fault c.in_ok-refused-in-Err-BadDeclared.ensures
