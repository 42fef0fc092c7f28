use Rattle.saw_publish.proofs.GoodBlocks.{candidate_good}
use Rattle.saw_publish.proofs.laws.candidate_is_good.Goals as goal

pub returns : goal.returns
returns c = candidate_good
