use Rattle.saw_machine.proofs.Lasts.{no-later-change}
use Rattle.saw_machine.proofs.no_later_change.Goals as goal

pub returns : goal.returns
returns c = no-later-change
