-- What is written for a message is read back as that message.
use Rattle.std.specs.Prelude.{◌≡◌, ◌<◌, ◌^◌, ℕ, true, List, Ok}
use Rattle.std.specs.List.{AllByRecursion}
use Rattle.std.specs.Str.{is_utf8}
use Rattle.saw_wire.specs.Writing.{spelled, AreWritable}
use Rattle.saw_messages.specs.declared.batch.Batch.{Batch}
use Rattle.saw_messages.specs.declared.batch.BatchHeader.{BatchHeader}
use Rattle.saw_messages.specs.declared.batch.BatchList.{BatchList}
use Rattle.saw_messages.specs.declared.block.Block.{Block}
use Rattle.saw_messages.specs.declared.block.BlockHeader.{BlockHeader}
use Rattle.saw_messages.specs.declared.receipt.Attribute.{Attribute}
use Rattle.saw_messages.specs.declared.receipt.Event.{Event}
use Rattle.saw_messages.specs.declared.receipt.Receipt.{Receipt}
use Rattle.saw_messages.specs.declared.receipt.StateChange.{StateChange}
use Rattle.saw_messages.specs.declared.transaction.Transaction.{Transaction}
use Rattle.saw_messages.specs.declared.transaction.TransactionHeader.{TransactionHeader}
use Rattle.saw_messages.specs.Batches.{batch, batch_pieces, batch_header, batch_header_pieces, batch_list, batch_list_pieces}
use Rattle.saw_messages.specs.Blocks.{block, block_pieces, block_header, block_header_pieces}
use Rattle.saw_messages.specs.Receipts.{attribute_pieces, event, event_pieces, receipt, receipt_pieces, state_change, state_change_pieces}
use Rattle.saw_messages.specs.Transactions.{transaction, transaction_pieces, transaction_header, transaction_header_pieces}

-- ---- what each value of a message type is: its texts are UTF-8, and its numbers and lengths fit their types

abbrev pub IsText : List ℕ → Type 0
IsText bytes = is_utf8 bytes ≡ true

pub record IsTransaction (m : Transaction) : Type 0 where
  pub header_signature : IsText m.header_signature
  pub fits : AreWritable (transaction_pieces m)

pub record IsTransactionHeader (m : TransactionHeader) : Type 0 where
  pub batcher_public_key : IsText m.batcher_public_key
  pub dependencies : AllByRecursion IsText m.dependencies
  pub family_name : IsText m.family_name
  pub family_version : IsText m.family_version
  pub inputs : AllByRecursion IsText m.inputs
  pub nonce : IsText m.nonce
  pub outputs : AllByRecursion IsText m.outputs
  pub payload_sha512 : IsText m.payload_sha512
  pub signer_public_key : IsText m.signer_public_key
  pub fits : AreWritable (transaction_header_pieces m)

pub record IsBatch (m : Batch) : Type 0 where
  pub header_signature : IsText m.header_signature
  pub transactions : AllByRecursion IsTransaction m.transactions
  pub fits : AreWritable (batch_pieces m)

pub record IsBatchHeader (m : BatchHeader) : Type 0 where
  pub signer_public_key : IsText m.signer_public_key
  pub transaction_ids : AllByRecursion IsText m.transaction_ids
  pub fits : AreWritable (batch_header_pieces m)

pub record IsBatchList (m : BatchList) : Type 0 where
  pub batches : AllByRecursion IsBatch m.batches
  pub fits : AreWritable (batch_list_pieces m)

pub record IsBlock (m : Block) : Type 0 where
  pub header_signature : IsText m.header_signature
  pub batches : AllByRecursion IsBatch m.batches
  pub fits : AreWritable (block_pieces m)

pub record IsBlockHeader (m : BlockHeader) : Type 0 where
  pub previous_block_id : IsText m.previous_block_id
  pub signer_public_key : IsText m.signer_public_key
  pub batch_ids : AllByRecursion IsText m.batch_ids
  pub state_root_hash : IsText m.state_root_hash
  pub fits : AreWritable (block_header_pieces m)

pub record IsAttribute (m : Attribute) : Type 0 where
  pub key : IsText m.key
  pub value : IsText m.value
  pub fits : AreWritable (attribute_pieces m)

pub record IsEvent (m : Event) : Type 0 where
  pub event_type : IsText m.event_type
  pub attributes : AllByRecursion IsAttribute m.attributes
  pub fits : AreWritable (event_pieces m)

pub record IsStateChange (m : StateChange) : Type 0 where
  pub address : IsText m.address
  pub kind : m.kind < 2 ^ 32
  pub fits : AreWritable (state_change_pieces m)

pub record IsReceipt (m : Receipt) : Type 0 where
  pub state_changes : AllByRecursion IsStateChange m.state_changes
  pub events : AllByRecursion IsEvent m.events
  pub transaction_id : IsText m.transaction_id
  pub fits : AreWritable (receipt_pieces m)

-- ---- the laws

abbrev pub TransactionIsReadBack : Type 0
TransactionIsReadBack = (m : Transaction) → IsTransaction m → transaction (spelled (transaction_pieces m)) ≡ Ok m

abbrev pub TransactionHeaderIsReadBack : Type 0
TransactionHeaderIsReadBack = (m : TransactionHeader) → IsTransactionHeader m → transaction_header (spelled (transaction_header_pieces m)) ≡ Ok m

abbrev pub BatchIsReadBack : Type 0
BatchIsReadBack = (m : Batch) → IsBatch m → batch (spelled (batch_pieces m)) ≡ Ok m

abbrev pub BatchHeaderIsReadBack : Type 0
BatchHeaderIsReadBack = (m : BatchHeader) → IsBatchHeader m → batch_header (spelled (batch_header_pieces m)) ≡ Ok m

abbrev pub BatchListIsReadBack : Type 0
BatchListIsReadBack = (m : BatchList) → IsBatchList m → batch_list (spelled (batch_list_pieces m)) ≡ Ok m

abbrev pub BlockIsReadBack : Type 0
BlockIsReadBack = (m : Block) → IsBlock m → block (spelled (block_pieces m)) ≡ Ok m

abbrev pub BlockHeaderIsReadBack : Type 0
BlockHeaderIsReadBack = (m : BlockHeader) → IsBlockHeader m → block_header (spelled (block_header_pieces m)) ≡ Ok m

abbrev pub EventIsReadBack : Type 0
EventIsReadBack = (m : Event) → IsEvent m → event (spelled (event_pieces m)) ≡ Ok m

abbrev pub StateChangeIsReadBack : Type 0
StateChangeIsReadBack = (m : StateChange) → IsStateChange m → state_change (spelled (state_change_pieces m)) ≡ Ok m

abbrev pub ReceiptIsReadBack : Type 0
ReceiptIsReadBack = (m : Receipt) → IsReceipt m → receipt (spelled (receipt_pieces m)) ≡ Ok m
