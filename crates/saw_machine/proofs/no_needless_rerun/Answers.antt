use Rattle.saw_machine.proofs.Reruns.{no-needless-rerun}
use Rattle.saw_machine.proofs.no_needless_rerun.Goals as goal

pub returns : goal.returns
returns c = no-needless-rerun
