use Rattle.saw_publish.proofs.Told.{told_is_built_or_starves}
use Rattle.saw_publish.proofs.laws.told_is_built_or_starves.Goals as goal

pub returns : goal.returns
returns g c = told_is_built_or_starves g.R.Station.faults
