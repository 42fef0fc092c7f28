-- What is judged of a block whose structure has no fault.
use Rattle.std.specs.Prelude.{ℕ, List, map}
use Rattle.saw_messages.specs.TxShapes.{BatchShape}
use Rattle.saw_messages.specs.declared.block.Block.{Block}
use Rattle.saw_messages.specs.declared.block.BlockHeader.{BlockHeader}
use Rattle.saw_receipts.specs.Shapes.{batch_in}
use Rattle.saw_checks.specs.declared.checked.CheckedBlock.{CheckedBlock}

pub record Parts : Type 0 where
  pub id : List ℕ
  pub header : BlockHeader
  pub batches : List BatchShape

abbrev pub parts_of : Block → BlockHeader → Parts
parts_of b header = record { id = b.header_signature; header = header; batches = map batch_in b.batches }

-- the same of a block that was checked
abbrev pub parts_in : CheckedBlock → Parts
parts_in checked = record { id = checked.id; header = checked.header; batches = checked.batches }
