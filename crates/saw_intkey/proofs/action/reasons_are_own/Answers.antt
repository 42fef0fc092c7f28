use Rattle.saw_intkey.proofs.Reasons.{next_own}
use Rattle.saw_intkey.proofs.action.reasons_are_own.Goals as goal

pub returns : goal.returns
returns c = next_own
