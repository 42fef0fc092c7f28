use Rattle.saw_top.proofs.Candidates.{candidate_accepted}
use Rattle.saw_top.proofs.laws.candidate_is_accepted.Goals as goal

pub returns : goal.returns
returns c = candidate_accepted
