-- The transaction of a shape, as it stands in a batch.
use Rattle.saw_messages.specs.TxShapes.{TxShape}
use Rattle.saw_messages.specs.declared.transaction.Transaction.{Transaction}

abbrev pub kept_tx : TxShape → Transaction
kept_tx tx = record { header = tx.header_bytes; header_signature = tx.id; payload = tx.payload }
