use Rattle.saw_journal.proofs.Leaving.{kept_is_left}
use Rattle.saw_journal.proofs.laws.kept_is_left.Goals as goal

pub returns : goal.returns
returns c = kept_is_left
