-- What is read of batches and blocks that have no fault.
use Rattle.std.specs.Prelude.{◌≡◌, ◌⊎◌, ℕ, Bool, List, [], ◌∷◌, Some, None, Result, Ok, Err}
use Rattle.saw_messages.specs.Batches.{batch_header}
use Rattle.saw_messages.specs.Blocks.{block, block_header}
use Rattle.saw_messages.specs.Transactions.{transaction_header}
use Rattle.saw_messages.specs.declared.batch.Batch.{Batch}
use Rattle.saw_messages.specs.declared.batch.BatchHeader.{BatchHeader}
use Rattle.saw_messages.specs.declared.block.Block.{Block}
use Rattle.saw_messages.specs.declared.transaction.Transaction.{Transaction}
use Rattle.saw_messages.specs.declared.tx.Tx.{Tx}
use Rattle.saw_messages.specs.declared.tx.TxBatch.{TxBatch}
use Rattle.saw_checks.specs.declared.checked.CheckedBlock.{CheckedBlock}
use Rattle.saw_checks.specs.declared.checked.ReadBlock.{ReadBlock}
use Rattle.saw_checks.specs.declared.fault.BatchFault.{BatchFault}
use Rattle.saw_checks.specs.declared.fault.BatchFault.TheVariants as batches
use Rattle.saw_checks.specs.declared.fault.StructureFault.{StructureFault}
use Rattle.saw_checks.specs.declared.fault.StructureFault.TheVariants as blocks
use Rattle.saw_checks.specs.declared.judged.Judged.{Judged}
use Rattle.saw_checks.specs.declared.judged.Judged.TheVariants.{Good, Bad}
use Rattle.saw_checks.specs.BatchFaults.{batch_fault}
use Rattle.saw_checks.specs.StructureFaults.{structure_fault}

-- a read transaction is this one, and its header is the message of its bytes
pub record IsTxOf (tx : Transaction) (read : Tx) : Type 0 where
  pub id : read.id ≡ tx.header_signature
  pub header : transaction_header tx.header ≡ Ok read.header
  pub header_bytes : read.header_bytes ≡ tx.header
  pub payload : read.payload ≡ tx.payload

-- each one of the other, in order
abbrev pub AreTxsOf : List Transaction → List Tx → Type 0
AreTxsOf [] [] = Unit {0}
AreTxsOf [] (read ∷ reads) = ⊥
AreTxsOf (tx ∷ txs) [] = ⊥
AreTxsOf (tx ∷ txs) (read ∷ reads) = IsTxOf tx read × AreTxsOf txs reads

-- a read batch is this one
pub record IsBatchOf (batch : Batch) (read : TxBatch) : Type 0 where
  pub id : read.id ≡ batch.header_signature
  pub signer : (header : BatchHeader) → batch_header batch.header ≡ Ok header → read.signer ≡ header.signer_public_key
  pub txs : AreTxsOf batch.transactions read.txs

abbrev pub AreBatchesOf : List Batch → List TxBatch → Type 0
AreBatchesOf [] [] = Unit {0}
AreBatchesOf [] (read ∷ reads) = ⊥
AreBatchesOf (batch ∷ batches) [] = ⊥
AreBatchesOf (batch ∷ batches) (read ∷ reads) = IsBatchOf batch read × AreBatchesOf batches reads

-- a checked block is the one of these bytes
pub record IsBlockOf (bytes : List ℕ) (checked : CheckedBlock) : Type 0 where
  pub read : Block
  pub decoded : block bytes ≡ Ok read
  pub id : checked.id ≡ read.header_signature
  pub header : block_header read.header ≡ Ok checked.header
  pub batches : AreBatchesOf read.batches checked.batches

module _ (accepts : List ℕ → List ℕ → List ℕ → Bool) where
  -- what a check of a batch answers: the batch where it has no fault, else its first fault, unless memory ran out
  abbrev pub BatchGives : Batch → Result TxBatch BatchFault → Type 0
  BatchGives batch (Ok read) = (batch_fault accepts batch ≡ None) × IsBatchOf batch read
  BatchGives batch (Err e) = (e ≡ batches.OutOfMemory) ⊎ (batch_fault accepts batch ≡ Some e)

  abbrev pub BlockGives : List ℕ → Result CheckedBlock StructureFault → Type 0
  BlockGives bytes (Ok read) = (structure_fault accepts bytes ≡ None) × IsBlockOf bytes read
  BlockGives bytes (Err e) = (e ≡ blocks.OutOfMemory) ⊎ (structure_fault accepts bytes ≡ Some e)

  -- the same, with what it was read from
  abbrev pub ReadGives : List ℕ → Result ReadBlock StructureFault → Type 0
  ReadGives bytes (Ok read) = BlockGives bytes (Ok read.checked)
  ReadGives bytes (Err e) = BlockGives bytes (Err e)

  -- what is judged of one batch
  abbrev pub IsJudged : Batch → Judged → Type 0
  IsJudged batch (Good read) = (batch_fault accepts batch ≡ None) × IsBatchOf batch read
  IsJudged batch (Bad e) = batch_fault accepts batch ≡ Some e

  -- each batch is judged, in order
  abbrev pub AreJudged : List Batch → List Judged → Type 0
  AreJudged [] [] = Unit {0}
  AreJudged [] (judged ∷ others) = ⊥
  AreJudged (batch ∷ batches) [] = ⊥
  AreJudged (batch ∷ batches) (judged ∷ others) = IsJudged batch judged × AreJudged batches others
