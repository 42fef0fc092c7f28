-- A transaction by itself: its id, its header with the bytes that it was read from, and its payload. A batch by itself.
use Rattle.std.specs.Prelude.{ℕ, List, [], Result, Ok, Err}
use Rattle.saw_wire.specs.declared.fault.MessageFault.{MessageFault}
use Rattle.saw_messages.specs.Transactions.{transaction_header, transaction_header_of}
use Rattle.saw_messages.specs.declared.transaction.Transaction.{Transaction}
use Rattle.saw_messages.specs.declared.transaction.TransactionHeader.{TransactionHeader}

pub record TxShape : Type 0 where
  pub id : List ℕ
  pub header : TransactionHeader
  pub header_bytes : List ℕ
  pub payload : List ℕ

-- a batch by itself
pub record BatchShape : Type 0 where
  pub id : List ℕ
  pub signer : List ℕ
  pub txs : List TxShape

-- the header that bytes say, and the empty one where they say none
abbrev pub header_by : Result TransactionHeader MessageFault → TransactionHeader
header_by (Ok header) = header
header_by (Err e) = transaction_header_of []

-- the same of a transaction as it stands in a batch
abbrev pub shape_in : Transaction → TxShape
shape_in tx = record { id = tx.header_signature; header = header_by (transaction_header tx.header); header_bytes = tx.header; payload = tx.payload }
