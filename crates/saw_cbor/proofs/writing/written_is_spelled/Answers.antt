use Rattle.saw_cbor.proofs.Written.{spelled_is}
use Rattle.saw_cbor.proofs.writing.written_is_spelled.Goals as goal

pub returns : goal.returns
returns c = spelled_is
