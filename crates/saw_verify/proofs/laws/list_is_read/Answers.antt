use Rattle.saw_verify.proofs.ReadBack.{list_is_read}
use Rattle.saw_verify.proofs.laws.list_is_read.Goals as goal

pub returns : goal.returns
returns c = list_is_read
