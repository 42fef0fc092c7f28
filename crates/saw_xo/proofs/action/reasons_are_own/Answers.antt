use Rattle.saw_xo.proofs.Reasons.{next_own}
use Rattle.saw_xo.proofs.action.reasons_are_own.Goals as goal

pub returns : goal.returns
returns c = next_own
