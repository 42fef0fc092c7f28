-- What is read of a batch without fault is the batch by itself.
use Rattle.std.proofs.Common.{◌≡◌, ℕ, Bool, List, [], ◌∷◌, map, Some, None, Result, Ok, Err, refl, sym, ap, arith}
use Rattle.saw_checks.specs.BatchFaults.{batch_fault}
use Rattle.saw_checks.specs.Readings.{IsTxOf, AreTxsOf, IsBatchOf}
use Rattle.saw_checks.specs.declared.fault.BatchFault.TheVariants.{Header}
use Rattle.saw_messages.specs.Batches.{batch_header}
use Rattle.saw_messages.specs.TxShapes.{BatchShape, TxShape, shape_in, header_by}
use Rattle.saw_messages.specs.declared.batch.Batch.{Batch}
use Rattle.saw_messages.specs.declared.batch.BatchHeader.{BatchHeader}
use Rattle.saw_messages.specs.declared.transaction.Transaction.{Transaction}
use Rattle.saw_messages.specs.declared.transaction.TransactionHeader.{TransactionHeader}
use Rattle.saw_messages.specs.declared.tx.Tx.{Tx}
use Rattle.saw_messages.specs.declared.tx.TxBatch.{TxBatch}
use Rattle.saw_wire.specs.declared.fault.MessageFault.{MessageFault}
use Rattle.saw_receipts.specs.Shapes.{batch_in, signer_by}

same_shape : (id id' bytes bytes' payload payload' : List ℕ) (header header' : TransactionHeader) → id ≡ id' → header ≡ header' → bytes ≡ bytes'
    → payload ≡ payload'
    → (let first : TxShape = record { id = id; header = header; header_bytes = bytes; payload = payload } in
    let second : TxShape = record { id = id'; header = header'; header_bytes = bytes'; payload = payload' } in first ≡ second)
same_shape id id' bytes bytes' payload payload' header header' a b c d = rw (a, b, c, d) refl

tx_shape : (tx : Transaction) (read : Tx) → IsTxOf tx read → read ≡ shape_in tx
tx_shape tx read is = same_shape _ _ _ _ _ _ _ _ is.id (sym (ap header_by is.header)) is.header_bytes is.payload

tx_shapes : (txs : List Transaction) (reads : List Tx) → AreTxsOf txs reads → reads ≡ map shape_in txs
tx_shapes [] [] are = refl
tx_shapes [] (read ∷ reads) are = absurd are
tx_shapes (tx ∷ txs) [] are = absurd are
tx_shapes (tx ∷ txs) (read ∷ reads) are = rw (tx_shape tx read are.0, tx_shapes txs reads are.1) refl

same_batch : (id id' signer signer' : List ℕ) (txs txs' : List TxShape) → id ≡ id' → signer ≡ signer' → txs ≡ txs'
    → (let first : BatchShape = record { id = id; signer = signer; txs = txs } in
    let second : BatchShape = record { id = id'; signer = signer'; txs = txs' } in first ≡ second)
same_batch id id' signer signer' txs txs' a b c = rw (a, b, c) refl

-- ---- the signer

module _ (accepts : List ℕ → List ℕ → List ℕ → Bool) where
  said_by : (batch : Batch) → batch_fault accepts batch ≡ None → (read : Result BatchHeader MessageFault) → batch_header batch.header ≡ read
      → (signer : List ℕ) → ((header : BatchHeader) → batch_header batch.header ≡ Ok header → signer ≡ header.signer_public_key) → signer ≡ signer_by read
  unfolding batch_fault
  said_by batch fine (Ok header) is signer says = says header is
  said_by batch fine (Err e) is signer says =
      let bad : batch_fault accepts batch ≡ Some Header = rw is refl in
      absurd (grind (arith, bad, fine))

  pub batch_is : (batch : Batch) (read : TxBatch) → batch_fault accepts batch ≡ None → IsBatchOf batch read → read ≡ batch_in batch
  batch_is batch read fine is =
      same_batch _ _ _ _ _ _ is.id (said_by batch fine (batch_header batch.header) refl read.signer is.signer)
      (tx_shapes batch.transactions read.txs is.txs)
