use Rattle.saw_publish.proofs.Told.{told_is_built}
use Rattle.saw_publish.proofs.laws.told_is_built_serially.Goals as goal

pub returns : goal.returns
returns c = told_is_built
