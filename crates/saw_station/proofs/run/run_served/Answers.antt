use Rattle.std.proofs.Common.{ap}
use Rattle.saw_context.specs.Access.{Access}
use Rattle.saw_station.proofs.Covered.{spoken_covered}
use Rattle.saw_station.proofs.Finished.{talk_result}
use Rattle.saw_station.proofs.run.run_served.Goals as goal

pub done_of-requires : goal.done_of-requires
done_of-requires g c = record {
  covered = rw (← c.deref.ensures) (spoken_covered _ _ _ _ _ _ _ _ _ _ c.in_ok-spoken.ensures.spoken);
}

pub returns-clause-done : goal.returns-clause-done
returns-clause-done g c =
    let laws = g.met.R.Station g.world.𝓛 g.world.𝓜 g.world.𝓡 ((λ s x. x), (λ x. x), (λ x. x), λ x. x) in
    talk_result g.R.Station.next laws.own_reasons g.R.Station.tells c.args.desk.now.offers c.args.context.base c.args.job.now c.args.served
    c.in_ok-spoken.spoken _
    c.deref.result.now c.args.context.layers c.deref.ensures (ap (λ (a : Access). a.layers) c.requires.fresh)
    c.requires.declared c.requires.served c.requires.ready c.in_ok-spoken.ensures.spoken c.in_ok-done_of.ensures
