use Rattle.saw_address.proofs.Finite.{same_values}
use Rattle.saw_address.proofs.laws.same_everywhere.Goals as goal

pub returns : goal.returns
returns c = same_values
