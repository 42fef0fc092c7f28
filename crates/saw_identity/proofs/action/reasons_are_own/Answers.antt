use Rattle.saw_identity.specs.Reasons.{next_own}
use Rattle.saw_identity.proofs.action.reasons_are_own.Goals as goal

pub returns : goal.returns
returns c = next_own
