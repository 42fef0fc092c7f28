-- Written transactions and their headers are read back.
use Rattle.std.proofs.Common.{◌≡◌, List, refl}
use Rattle.saw_wire.specs.Pieces.{Piece}
use Rattle.saw_wire.specs.Fields.{all_bytes}
use Rattle.saw_wire.proofs.FieldsBack.{field_values, bytes_values, bytes_back, IsFine, ◌and◌, text_fine, texts_fine, ComesBack, comes_back, is_read}
use Rattle.saw_messages.specs.declared.transaction.Transaction.{Transaction}
use Rattle.saw_messages.specs.declared.transaction.TransactionHeader.{TransactionHeader}
use Rattle.saw_messages.specs.Transactions.{transaction_of, transaction_fault, transaction_pieces, transaction_header_of, transaction_header_fault}
use Rattle.saw_messages.specs.Transactions.{transaction_header_pieces}
use Rattle.saw_messages.specs.ReadBack.{IsTransaction, IsTransactionHeader, TransactionIsReadBack, TransactionHeaderIsReadBack}

-- ---- transactions

-- what the fields show
record SpelledBy (m : Transaction) (pieces : List Piece) : Type 0 where
  header : all_bytes 1 pieces ≡ bytes_values m.header
  header_signature : all_bytes 2 pieces ≡ bytes_values m.header_signature
  payload : all_bytes 3 pieces ≡ bytes_values m.payload

shows : (m : Transaction) → SpelledBy m (transaction_pieces m)
shows m = record { header = simp field_values; header_signature = simp field_values; payload = simp field_values }

says : (m : Transaction) (pieces : List Piece) → SpelledBy m pieces → transaction_of pieces ≡ m
says m pieces shown = rw (
  bytes_back 1 pieces m.header shown.header,
  bytes_back 2 pieces m.header_signature shown.header_signature,
  bytes_back 3
      pieces m.payload shown.payload,
) refl

fine : (m : Transaction) (pieces : List Piece) → IsTransaction m → SpelledBy m pieces → IsFine transaction_fault pieces
fine m pieces is shown = text_fine 2 pieces m.header_signature shown.header_signature is.header_signature

pub transaction_back : (m : Transaction) → IsTransaction m → ComesBack transaction_of transaction_fault transaction_pieces m
transaction_back m is = comes_back transaction_of transaction_fault transaction_pieces m is.fits (fine m (transaction_pieces m) is (shows m))
    (says m (transaction_pieces m) (shows m))

pub transaction_is_read : TransactionIsReadBack
transaction_is_read m is = is_read (transaction_back m is)

-- ---- headers

record HeaderShows (m : TransactionHeader) (pieces : List Piece) : Type 0 where
  batcher_public_key : all_bytes 1 pieces ≡ bytes_values m.batcher_public_key
  dependencies : all_bytes 2 pieces ≡ m.dependencies
  family_name : all_bytes 3 pieces ≡ bytes_values m.family_name
  family_version : all_bytes 4 pieces ≡ bytes_values m.family_version
  inputs : all_bytes 5 pieces ≡ m.inputs
  nonce : all_bytes 6 pieces ≡ bytes_values m.nonce
  outputs : all_bytes 7 pieces ≡ m.outputs
  payload_sha512 : all_bytes 9 pieces ≡ bytes_values m.payload_sha512
  signer_public_key : all_bytes 10 pieces ≡ bytes_values m.signer_public_key

header_shows : (m : TransactionHeader) → HeaderShows m (transaction_header_pieces m)
header_shows m = record {
  batcher_public_key = simp field_values;
  dependencies = simp field_values;
  family_name = simp field_values;
  family_version = simp field_values;
  inputs = simp field_values;
  nonce = simp field_values;
  outputs = simp field_values;
  payload_sha512 = simp field_values;
  signer_public_key = simp field_values;
}

header_says : (m : TransactionHeader) (pieces : List Piece) → HeaderShows m pieces → transaction_header_of pieces ≡ m
header_says m pieces shown =
    rw (
      bytes_back 1 pieces m.batcher_public_key shown.batcher_public_key,
      shown.dependencies,
      bytes_back 3 pieces m.family_name shown.family_name,
      bytes_back 4 pieces m.family_version shown.family_version,
      shown.inputs,
      bytes_back 6 pieces m.nonce shown.nonce,
      shown.outputs,
      bytes_back 9 pieces m.payload_sha512 shown.payload_sha512,
      bytes_back 10 pieces m.signer_public_key shown.signer_public_key,
    ) refl

header_fine : (m : TransactionHeader) (pieces : List Piece) → IsTransactionHeader m → HeaderShows m pieces → IsFine transaction_header_fault pieces
header_fine m pieces is shown =
    text_fine 1 pieces m.batcher_public_key shown.batcher_public_key is.batcher_public_key
    and texts_fine 2 pieces m.dependencies shown.dependencies is.dependencies
    and text_fine 3 pieces m.family_name shown.family_name is.family_name
    and text_fine 4 pieces m.family_version shown.family_version is.family_version
    and texts_fine 5 pieces m.inputs shown.inputs is.inputs
    and text_fine 6 pieces m.nonce shown.nonce is.nonce
    and texts_fine 7 pieces m.outputs shown.outputs is.outputs
    and text_fine 9 pieces m.payload_sha512 shown.payload_sha512 is.payload_sha512
    and text_fine 10 pieces m.signer_public_key shown.signer_public_key is.signer_public_key

pub transaction_header_back : (m : TransactionHeader) → IsTransactionHeader m
    → ComesBack transaction_header_of transaction_header_fault transaction_header_pieces m
transaction_header_back m is =
    comes_back transaction_header_of transaction_header_fault transaction_header_pieces m is.fits
    (header_fine m (transaction_header_pieces m) is (header_shows m)) (header_says m (transaction_header_pieces m) (header_shows m))

pub transaction_header_is_read : TransactionHeaderIsReadBack
transaction_header_is_read m is = is_read (transaction_header_back m is)
