use Rattle.saw_journal.proofs.Told.{told_is_said}
use Rattle.saw_journal.proofs.laws.told_is_said_serially.Goals as goal

pub returns : goal.returns
returns c = told_is_said
