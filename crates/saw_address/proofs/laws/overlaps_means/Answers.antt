use Rattle.saw_address.proofs.Covering.{overlaps_iff}
use Rattle.saw_address.proofs.laws.overlaps_means.Goals as goal

pub returns : goal.returns
returns c = overlaps_iff
