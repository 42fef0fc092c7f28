use Rattle.saw_address.proofs.Finite.{value_at-changed_at}
use Rattle.saw_address.proofs.laws.read_after_change.Goals as goal

pub returns : goal.returns
returns c = value_at-changed_at
