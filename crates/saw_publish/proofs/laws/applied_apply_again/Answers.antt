use Rattle.saw_publish.proofs.AppliedAgain.{applied_apply_again}
use Rattle.saw_publish.proofs.laws.applied_apply_again.Goals as goal

pub returns : goal.returns
returns c = applied_apply_again
