use Rattle.saw_checks.proofs.Faultless.{faultless_batch}
use Rattle.saw_checks.proofs.laws.faultless_batch_is_good.Goals as goal

pub returns : goal.returns
returns c = faultless_batch
