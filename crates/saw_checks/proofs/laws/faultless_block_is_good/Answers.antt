use Rattle.saw_checks.proofs.Faultless.{faultless_block}
use Rattle.saw_checks.proofs.laws.faultless_block_is_good.Goals as goal

pub returns : goal.returns
returns c = faultless_block
