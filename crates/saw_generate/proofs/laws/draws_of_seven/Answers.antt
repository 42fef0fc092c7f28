use Rattle.std.proofs.Common.{refl}
use Rattle.saw_generate.specs.Draws.{state_after}
use Rattle.saw_generate.proofs.laws.draws_of_seven.Goals as goal

pub returns : goal.returns
unfolding state_after
returns c = (refl, refl)
