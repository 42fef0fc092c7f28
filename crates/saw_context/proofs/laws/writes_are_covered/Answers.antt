use Rattle.saw_context.proofs.Covered.{changes_covered}
use Rattle.saw_context.proofs.laws.writes_are_covered.Goals as goal

pub returns : goal.returns
returns c = changes_covered
