use Rattle.saw_crew.proofs.Leaving.{keep_all}
use Rattle.saw_publish.proofs.run.execute_over.Goals as goal

pub returns-in_err-plan-in-Some-clause-desks : goal.returns-in_err-plan-in-Some-clause-desks
returns-in_err-plan-in-Some-clause-desks g c = keep_all g.R.Station.faults g.R.Station.offered c.args.desks.now
