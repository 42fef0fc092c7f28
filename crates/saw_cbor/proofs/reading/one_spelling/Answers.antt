use Rattle.saw_cbor.proofs.Again.{one_item}
use Rattle.saw_cbor.proofs.reading.one_spelling.Goals as goal

pub returns : goal.returns
returns c = one_item
