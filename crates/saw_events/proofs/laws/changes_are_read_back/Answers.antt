use Rattle.saw_events.proofs.ListBack.{list_is_read}
use Rattle.saw_events.proofs.laws.changes_are_read_back.Goals as goal

pub returns : goal.returns
returns c = list_is_read
