use Rattle.saw_schedule.proofs.Replays.{histories-are-lawful}
use Rattle.saw_schedule.proofs.laws.histories_are_lawful.Goals as goal

pub returns : goal.returns
returns c = histories-are-lawful
