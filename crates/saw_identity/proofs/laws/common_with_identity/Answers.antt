use Rattle.saw_identity.proofs.Offers.{common_with_identity}
use Rattle.saw_identity.proofs.laws.common_with_identity.Goals as goal

pub returns : goal.returns
returns c = common_with_identity
