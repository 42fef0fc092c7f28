use Rattle.saw_intkey.proofs.ReadBack.{kept_is_read}
use Rattle.saw_intkey.proofs.laws.kept_is_read.Goals as goal

pub returns : goal.returns
returns c = kept_is_read
