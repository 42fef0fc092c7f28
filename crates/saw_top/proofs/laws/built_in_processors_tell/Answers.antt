use Rattle.saw_top.proofs.BuiltIn.{built_in_tell}
use Rattle.saw_top.proofs.laws.built_in_processors_tell.Goals as goal

pub returns : goal.returns
returns c = built_in_tell
