-- The first fault of a batch: its tests, in order.
use Rattle.std.specs.Prelude.{ℕ, ◌+◌, Bool, not, List, [], ◌∷◌, ◌++◌, map, length, Option, Some, None, option_map, Result, Ok, Err, nat_lt, ◌==◌}
use Rattle.std.specs.List.{list_any}
use Rattle.std.specs.Str.{bytes_eq}
use Rattle.hex.specs.Hex.{encode_lower}
use Rattle.sha2.specs.Sha512.{sha512}
use Rattle.saw_address.specs.Texts.{is_hex_text}
use Rattle.saw_wire.specs.declared.fault.MessageFault.{MessageFault}
use Rattle.saw_messages.specs.Batches.{batch_header}
use Rattle.saw_messages.specs.Transactions.{transaction_header}
use Rattle.saw_messages.specs.declared.batch.Batch.{Batch}
use Rattle.saw_messages.specs.declared.batch.BatchHeader.{BatchHeader}
use Rattle.saw_messages.specs.declared.transaction.Transaction.{Transaction}
use Rattle.saw_messages.specs.declared.transaction.TransactionHeader.{TransactionHeader}
use Rattle.saw_checks.specs.declared.fault.BatchFault.{BatchFault}
use Rattle.saw_checks.specs.declared.fault.BatchFault.TheVariants.{Header, IdText, KeyText, Empty, IdsDiffer, TxHeader, TxIdText, TxKeyText, PayloadHash, BatcherKey, TxSignature, RepeatedTx, TooManyDeclared, Signature}
use Rattle.saw_checks.specs.Tests.{first_of, ◌<|>◌, first_difference}

-- the ids of transactions
abbrev pub ids_of : List Transaction → List (List ℕ)
ids_of txs = map (λ tx. tx.header_signature) txs

-- how many inputs and outputs a transaction may declare together
abbrev pub max_declared : ℕ
max_declared = 1000

-- the tests of a batch before those of its transactions
abbrev pub batch_tests : Batch → BatchHeader → List (Bool × BatchFault)
batch_tests batch header =
    (not (is_hex_text 128 batch.header_signature), IdText)
    ∷ (not (is_hex_text 66 header.signer_public_key), KeyText)
    ∷ (length batch.transactions == 0, Empty)
    ∷ []

module _ (accepts : List ℕ → List ℕ → List ℕ → Bool) where
  -- the tests of the transaction at index t whose header was read; the ids of those before it are given
  abbrev pub tx_tests : List ℕ → List (List ℕ) → ℕ → Transaction → TransactionHeader → List (Bool × BatchFault)
  tx_tests signer earlier t tx header =
      (not (is_hex_text 128 tx.header_signature), TxIdText t)
      ∷ (not (is_hex_text 66 header.signer_public_key), TxKeyText t)
      ∷ (not (bytes_eq header.payload_sha512 (encode_lower (sha512 tx.payload))), PayloadHash t)
      ∷ (not (bytes_eq header.batcher_public_key signer), BatcherKey t)
      ∷ (not (accepts header.signer_public_key tx.header tx.header_signature), TxSignature t)
      ∷ (list_any (λ id. bytes_eq id tx.header_signature) earlier, RepeatedTx t)
      ∷ (nat_lt max_declared (length header.inputs + length header.outputs), TooManyDeclared t)
      ∷ []

  abbrev pub tx_fault_by : List ℕ → List (List ℕ) → ℕ → Transaction → Result TransactionHeader MessageFault → Option BatchFault
  tx_fault_by signer earlier t tx (Ok header) = first_of (tx_tests signer earlier t tx header)
  tx_fault_by signer earlier t tx (Err e) = Some (TxHeader t)

  -- the first fault of the transaction at index t
  unfoldable pub tx_fault : List ℕ → List (List ℕ) → ℕ → Transaction → Option BatchFault
  tx_fault signer earlier t tx = tx_fault_by signer earlier t tx (transaction_header tx.header)

  -- the first fault of transactions, of which the first has index t
  abbrev pub txs_fault : List ℕ → List (List ℕ) → ℕ → List Transaction → Option BatchFault
  txs_fault signer earlier t [] = None
  txs_fault signer earlier t (tx ∷ txs) = tx_fault signer earlier t tx <|> txs_fault signer (earlier ++ tx.header_signature ∷ []) (t + 1) txs

  abbrev pub batch_fault_by : Batch → Result BatchHeader MessageFault → Option BatchFault
  batch_fault_by batch (Err e) = Some Header
  batch_fault_by batch (Ok header) =
      first_of (batch_tests batch header)
      <|> option_map IdsDiffer (first_difference header.transaction_ids (ids_of batch.transactions))
      <|> txs_fault header.signer_public_key [] 0 batch.transactions
      <|> first_of ((not (accepts header.signer_public_key batch.header batch.header_signature), Signature) ∷ [])

  -- the first fault of a batch
  unfoldable pub batch_fault : Batch → Option BatchFault
  batch_fault batch = batch_fault_by batch (batch_header batch.header)
