use Rattle.saw_top.proofs.SerialBranches.{map_behind_is_branch}
use Rattle.saw_top.proofs.laws.map_behind_is_branch.Goals as goal

pub returns : goal.returns
returns c = map_behind_is_branch
