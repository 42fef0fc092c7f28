use Rattle.saw_journal.proofs.Told.{told_is_answered}
use Rattle.saw_journal.proofs.laws.told_is_answered_serially.Goals as goal

pub returns : goal.returns
returns g c = told_is_answered g.R.Station.faults
