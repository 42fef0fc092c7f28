use Rattle.saw_wire.proofs.ReadBack.{written_back}
use Rattle.saw_wire.proofs.writing.written_is_read.Goals as goal

pub returns : goal.returns
returns c = written_back
