use Rattle.saw_cbor.proofs.Written.{written_back}
use Rattle.saw_cbor.proofs.writing.written_is_read.Goals as goal

pub returns : goal.returns
returns c = written_back
