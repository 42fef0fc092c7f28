-- Batches as they stand in a block or in a list, by themselves.
use Rattle.std.specs.Prelude.{ℕ, List, [], map, Result, Ok, Err}
use Rattle.saw_messages.specs.Batches.{batch_header}
use Rattle.saw_messages.specs.TxShapes.{BatchShape, shape_in}
use Rattle.saw_messages.specs.declared.batch.Batch.{Batch}
use Rattle.saw_messages.specs.declared.batch.BatchHeader.{BatchHeader}
use Rattle.saw_wire.specs.declared.fault.MessageFault.{MessageFault}

-- the signer that a batch's header says
abbrev pub signer_by : Result BatchHeader MessageFault → List ℕ
signer_by (Ok header) = header.signer_public_key
signer_by (Err e) = []

-- a batch by itself, as it stands in a block
abbrev pub batch_in : Batch → BatchShape
batch_in batch = record { id = batch.header_signature; signer = signer_by (batch_header batch.header); txs = map shape_in batch.transactions }
