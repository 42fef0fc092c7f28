-- What the parts of a batch's check answer.
use Rattle.std.specs.Prelude.{◌≡◌, ◌⊎◌, ℕ, ◌+◌, Bool, not, nat_lt, List, [], ◌∷◌, length, map, Option, Some, None, option_map, Result, Ok, Err}
use Rattle.std.specs.Str.{bytes_eq}
use Rattle.std.specs.Arc.{arc_value}
use Rattle.std.specs.declared.sync.Arc.{Arc}
use Rattle.hex.specs.Hex.{encode_lower}
use Rattle.sha2.specs.Sha512.{sha512}
use Rattle.saw_wire.specs.declared.fault.MessageFault.{MessageFault}
use Rattle.saw_wire.specs.declared.fault.MessageFault.TheVariants as messages
use Rattle.saw_messages.specs.Batches.{batch_header}
use Rattle.saw_messages.specs.Transactions.{transaction_header}
use Rattle.saw_messages.specs.declared.batch.Batch.{Batch}
use Rattle.saw_messages.specs.declared.batch.BatchHeader.{BatchHeader}
use Rattle.saw_messages.specs.declared.transaction.Transaction.{Transaction}
use Rattle.saw_messages.specs.declared.transaction.TransactionHeader.{TransactionHeader}
use Rattle.saw_messages.specs.declared.tx.Tx.{Tx}
use Rattle.saw_checks.specs.declared.fault.BatchFault.{BatchFault}
use Rattle.saw_checks.specs.declared.fault.BatchFault.TheVariants.{Header, IdsDiffer, TxHeader, Signature, OutOfMemory}
use Rattle.saw_checks.specs.Tests.{first_of, first_difference}
use Rattle.saw_checks.specs.BatchFaults.{ids_of, max_declared, tx_fault, txs_fault}
use Rattle.saw_checks.specs.Readings.{IsTxOf, AreTxsOf}

-- nothing was found wrong, or this fault is what was found
abbrev pub Tells : {A F : Type 0} → Result A F → Option F → Type 0
Tells (Ok x) found = found ≡ None
Tells (Err e) found = found ≡ Some e

-- a want of memory stays one, and any other fault is the given one
abbrev pub unless_memory : BatchFault → MessageFault → BatchFault
unless_memory other (messages.Wire fault) = other
unless_memory other (messages.NotUtf8 field) = other
unless_memory other messages.OutOfMemory = OutOfMemory

-- the header has the digest of the payload
abbrev pub has_digest : TransactionHeader → List ℕ → Bool
has_digest header payload = bytes_eq header.payload_sha512 (encode_lower (sha512 payload))

-- more inputs and outputs together than a transaction may declare
abbrev pub declares_too_many : TransactionHeader → Bool
declares_too_many header = nat_lt max_declared (length header.inputs + length header.outputs)

-- what reading a transaction's header answers
abbrev pub ReadsTx : ℕ → Transaction → Result Tx BatchFault → Type 0
ReadsTx t tx (Ok read) = IsTxOf tx read
ReadsTx t tx (Err e) = (e ≡ OutOfMemory) ⊎ ((e ≡ TxHeader t) × ((why : MessageFault) × (transaction_header tx.header ≡ Err why)))

-- what reading a batch's header answers
abbrev pub ReadsHeader : Batch → Result BatchHeader BatchFault → Type 0
ReadsHeader batch (Ok header) = batch_header batch.header ≡ Ok header
ReadsHeader batch (Err e) = (e ≡ OutOfMemory) ⊎ ((e ≡ Header) × ((why : MessageFault) × (batch_header batch.header ≡ Err why)))

-- the first place at which the listed ids and the transactions' differ
abbrev pub ids_fault : Batch → BatchHeader → Option BatchFault
ids_fault batch header = option_map IdsDiffer (first_difference header.transaction_ids (ids_of batch.transactions))

-- the signer's signature over the header
abbrev pub signature_fault : (List ℕ → List ℕ → List ℕ → Bool) → List ℕ → Batch → Option BatchFault
signature_fault accepts signer batch = first_of ((not (accepts signer batch.header batch.header_signature), Signature) ∷ [])

module _ (accepts : List ℕ → List ℕ → List ℕ → Bool) (signer : List ℕ) where
  -- what the tests of a transaction answer; the ids of those before it are given
  abbrev pub TxGives : List (List ℕ) → ℕ → Transaction → Result Tx BatchFault → Type 0
  TxGives earlier t tx (Ok read) = (tx_fault accepts signer earlier t tx ≡ None) × IsTxOf tx read
  TxGives earlier t tx (Err e) = (e ≡ OutOfMemory) ⊎ (tx_fault accepts signer earlier t tx ≡ Some e)

  -- what the tests of all transactions answer
  abbrev pub TxsGive : {Z : Type 0} → List Transaction → Result (List (Arc Tx Z)) BatchFault → Type 0
  TxsGive txs (Ok reads) = (txs_fault accepts signer [] 0 txs ≡ None) × AreTxsOf txs (map arc_value reads)
  TxsGive txs (Err e) = (e ≡ OutOfMemory) ⊎ (txs_fault accepts signer [] 0 txs ≡ Some e)
