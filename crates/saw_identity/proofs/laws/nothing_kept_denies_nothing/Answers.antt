use Rattle.saw_identity.proofs.Kept.{nobody_denied}
use Rattle.saw_identity.proofs.laws.nothing_kept_denies_nothing.Goals as goal

pub returns : goal.returns
returns c = nobody_denied
