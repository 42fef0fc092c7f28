-- What batches and blocks without a fault are.
use Rattle.std.specs.Prelude.{◌≡◌, ◌<◌, ◌≤◌, ◌↔◌, ◌+◌, ℕ, Bool, true, List, length, None, Ok}
use Rattle.std.specs.List.{AllByRecursion}
use Rattle.hex.specs.Hex.{encode_lower}
use Rattle.sha2.specs.Sha512.{sha512}
use Rattle.saw_address.specs.Texts.{is_hex_text}
use Rattle.saw_messages.specs.Batches.{batch_header}
use Rattle.saw_messages.specs.Blocks.{block, block_header}
use Rattle.saw_messages.specs.Distinct.{are_distinct}
use Rattle.saw_messages.specs.Transactions.{transaction_header}
use Rattle.saw_messages.specs.declared.batch.Batch.{Batch}
use Rattle.saw_messages.specs.declared.batch.BatchHeader.{BatchHeader}
use Rattle.saw_messages.specs.declared.block.Block.{Block}
use Rattle.saw_messages.specs.declared.block.BlockHeader.{BlockHeader}
use Rattle.saw_messages.specs.declared.transaction.Transaction.{Transaction}
use Rattle.saw_messages.specs.declared.transaction.TransactionHeader.{TransactionHeader}
use Rattle.saw_checks.specs.BatchFaults.{batch_fault, ids_of}
use Rattle.saw_checks.specs.StructureFaults.{batch_ids_of, structure_fault, transactions_count}

module _ (accepts : List ℕ → List ℕ → List ℕ → Bool) where
  -- a transaction of a batch of this signer
  pub record IsGoodTx (signer : List ℕ) (tx : Transaction) : Type 0 where
    pub header : TransactionHeader
    pub decoded : transaction_header tx.header ≡ Ok header
    pub id : is_hex_text 128 tx.header_signature ≡ true
    pub key : is_hex_text 66 header.signer_public_key ≡ true
    pub digest : header.payload_sha512 ≡ encode_lower (sha512 tx.payload)
    pub batcher : header.batcher_public_key ≡ signer
    pub signed : accepts header.signer_public_key tx.header tx.header_signature ≡ true
    pub declares : length header.inputs + length header.outputs ≤ 1000

  -- its header lists its transactions, which all differ
  pub record IsGoodBatch (batch : Batch) : Type 0 where
    pub header : BatchHeader
    pub decoded : batch_header batch.header ≡ Ok header
    pub id : is_hex_text 128 batch.header_signature ≡ true
    pub key : is_hex_text 66 header.signer_public_key ≡ true
    pub some : 0 < length batch.transactions
    pub listed : header.transaction_ids ≡ ids_of batch.transactions
    pub txs : AllByRecursion (IsGoodTx header.signer_public_key) batch.transactions
    pub differ : are_distinct (ids_of batch.transactions) ≡ true
    pub signed : accepts header.signer_public_key batch.header batch.header_signature ≡ true

  -- the block of these bytes: its header lists its batches
  pub record IsGoodBlock (bytes : List ℕ) : Type 0 where
    pub read : Block
    pub header : BlockHeader
    pub decoded : block bytes ≡ Ok read
    pub header_decoded : block_header read.header ≡ Ok header
    pub id : is_hex_text 128 read.header_signature ≡ true
    pub key : is_hex_text 66 header.signer_public_key ≡ true
    pub few : transactions_count read.batches ≤ 20000
    pub listed : header.batch_ids ≡ batch_ids_of read.batches
    pub batches : AllByRecursion IsGoodBatch read.batches
    pub signed : accepts header.signer_public_key read.header read.header_signature ≡ true

  abbrev pub FaultlessBatchIsGood : Type 0
  FaultlessBatchIsGood = (batch : Batch) → (batch_fault accepts batch ≡ None) ↔ IsGoodBatch batch

  abbrev pub FaultlessBlockIsGood : Type 0
  FaultlessBlockIsGood = (bytes : List ℕ) → (structure_fault accepts bytes ≡ None) ↔ IsGoodBlock bytes
