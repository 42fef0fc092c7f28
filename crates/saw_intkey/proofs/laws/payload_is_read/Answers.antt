use Rattle.saw_intkey.proofs.PayloadLemmas.{payload_is_read}
use Rattle.saw_intkey.proofs.laws.payload_is_read.Goals as goal

pub returns : goal.returns
returns c = payload_is_read
