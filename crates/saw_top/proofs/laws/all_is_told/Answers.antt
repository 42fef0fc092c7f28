use Rattle.saw_top.proofs.BuiltIn.{all_is_told}
use Rattle.saw_top.proofs.laws.all_is_told.Goals as goal

pub returns : goal.returns
returns c = all_is_told
