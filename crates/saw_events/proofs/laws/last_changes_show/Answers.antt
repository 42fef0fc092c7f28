use Rattle.saw_events.proofs.LastShown.{last_shown}
use Rattle.saw_events.proofs.laws.last_changes_show.Goals as goal

pub returns : goal.returns
returns c = last_shown
