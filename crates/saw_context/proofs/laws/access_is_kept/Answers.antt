use Rattle.saw_context.proofs.Kept.{access_kept}
use Rattle.saw_context.proofs.laws.access_is_kept.Goals as goal

pub returns : goal.returns
returns c = access_kept
