use Rattle.saw_generate.proofs.Every.{every_batch_applies}
use Rattle.saw_generate.proofs.laws.every_batch_applies.Goals as goal

pub returns : goal.returns
returns c = every_batch_applies
