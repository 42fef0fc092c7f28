use Rattle.saw_machine.proofs.Lasts.{no-later-write}
use Rattle.saw_machine.proofs.no_later_write.Goals as goal

pub returns : goal.returns
returns c = no-later-write
