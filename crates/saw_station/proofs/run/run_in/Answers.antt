use Rattle.std.proofs.Common.{refl}
use Rattle.saw_station.proofs.Finished.{refused_result}
use Rattle.saw_station.proofs.run.run_in.Goals as goal

pub returns-in_ok-refused-in-Err-clause-done : goal.returns-in_ok-refused-in-Err-clause-done
returns-in_ok-refused-in-Err-clause-done g c =
    refused_result g.R.Station.next (g.met.R.Station g.world.𝓛 g.world.𝓜 g.world.𝓡 ((λ s x. x), (λ x. x), (λ x. x), λ x. x)).own_reasons
    g.R.Station.tells c.args.desk.now.offers c.args.context.base c.args.job.now c.in-Err.reason _ _ c.requires.declared refl
    c.in-Err.ensures.refused c.in_ok-refused-in-Err.ensures
