use Rattle.saw_machine.proofs.States.{states-are-lawful}
use Rattle.saw_machine.proofs.states_are_lawful.Goals as goal

pub returns : goal.returns
returns c = states-are-lawful
