use Rattle.saw_machine.proofs.Counts.{few-reruns}
use Rattle.saw_machine.proofs.few_reruns.Goals as goal

pub returns : goal.returns
returns c = few-reruns
