use Rattle.saw_machine.proofs.Lasts.{view-is-last}
use Rattle.saw_machine.proofs.view_is_last.Goals as goal

pub returns : goal.returns
returns c = view-is-last
