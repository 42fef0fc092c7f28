use Rattle.saw_settings.proofs.Reasons.{next_own}
use Rattle.saw_settings.proofs.action.reasons_are_own.Goals as goal

pub returns : goal.returns
returns c = next_own
