use Rattle.saw_crew.proofs.Told.{told_is_run}
use Rattle.saw_crew.proofs.laws.told_is_run_serially.Goals as goal

pub returns : goal.returns
returns g c = told_is_run g.R.Station.faults
