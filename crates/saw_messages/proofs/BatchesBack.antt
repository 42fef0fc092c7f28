-- Written batches, their headers and lists of batches are read back.
use Rattle.std.proofs.Common.{◌≡◌, List, map, refl}
use Rattle.std.specs.Prelude.{if◌then◌else◌}
use Rattle.std.specs.List.{filter_map}
use Rattle.saw_wire.specs.Pieces.{Piece}
use Rattle.saw_wire.specs.Writing.{spelled}
use Rattle.saw_wire.specs.Fields.{all_bytes, number_in}
use Rattle.saw_wire.proofs.FieldsBack.{field_values, bytes_values, number_values, bytes_back, flag_back, items_back, IsFine, ◌and◌, text_fine}
use Rattle.saw_wire.proofs.FieldsBack.{texts_fine, items_fine, ComesBack, comes_back, is_read}
use Rattle.saw_messages.specs.declared.batch.Batch.{Batch}
use Rattle.saw_messages.specs.declared.batch.BatchHeader.{BatchHeader}
use Rattle.saw_messages.specs.declared.batch.BatchList.{BatchList}
use Rattle.saw_messages.specs.Batches.{batch_of, batch_fault, batch_pieces, batch_header_of, batch_header_fault, batch_header_pieces, batch_list_of}
use Rattle.saw_messages.specs.Batches.{batch_list_fault, batch_list_pieces}
use Rattle.saw_messages.specs.Transactions.{transaction_pieces}
use Rattle.saw_messages.specs.ReadBack.{IsBatch, IsBatchHeader, IsBatchList, BatchIsReadBack, BatchHeaderIsReadBack, BatchListIsReadBack}
use Rattle.saw_messages.proofs.TransactionsBack.{transaction_back}

-- ---- batches

-- what the fields show
record SpelledBy (m : Batch) (pieces : List Piece) : Type 0 where
  header : all_bytes 1 pieces ≡ bytes_values m.header
  header_signature : all_bytes 2 pieces ≡ bytes_values m.header_signature
  transactions : all_bytes 3 pieces ≡ map (λ tx. spelled (transaction_pieces tx)) m.transactions
  trace : filter_map (number_in 4) pieces ≡ number_values (if m.trace then 1 else 0)

shows : (m : Batch) → SpelledBy m (batch_pieces m)
shows m = record { header = simp field_values; header_signature = simp field_values; transactions = simp field_values; trace = simp field_values }

says : (m : Batch) (pieces : List Piece) → IsBatch m → SpelledBy m pieces → batch_of pieces ≡ m
says m pieces is shown =
    rw (
      bytes_back 1 pieces m.header shown.header,
      bytes_back 2 pieces m.header_signature shown.header_signature,
      items_back transaction_back 3 pieces m.transactions shown.transactions is.transactions,
      flag_back 4 pieces m.trace shown.trace,
    ) refl

fine : (m : Batch) (pieces : List Piece) → IsBatch m → SpelledBy m pieces → IsFine batch_fault pieces
fine m pieces is shown =
    text_fine 2 pieces m.header_signature shown.header_signature is.header_signature
    and items_fine transaction_back 3 pieces m.transactions shown.transactions is.transactions

pub batch_back : (m : Batch) → IsBatch m → ComesBack batch_of batch_fault batch_pieces m
batch_back m is = comes_back batch_of batch_fault batch_pieces m is.fits (fine m (batch_pieces m) is (shows m)) (says m (batch_pieces m) is (shows m))

pub batch_is_read : BatchIsReadBack
batch_is_read m is = is_read (batch_back m is)

-- ---- headers

record HeaderShows (m : BatchHeader) (pieces : List Piece) : Type 0 where
  signer_public_key : all_bytes 1 pieces ≡ bytes_values m.signer_public_key
  transaction_ids : all_bytes 2 pieces ≡ m.transaction_ids

header_shows : (m : BatchHeader) → HeaderShows m (batch_header_pieces m)
header_shows m = record { signer_public_key = simp field_values; transaction_ids = simp field_values }

header_says : (m : BatchHeader) (pieces : List Piece) → HeaderShows m pieces → batch_header_of pieces ≡ m
header_says m pieces shown = rw (bytes_back 1 pieces m.signer_public_key shown.signer_public_key, shown.transaction_ids) refl

header_fine : (m : BatchHeader) (pieces : List Piece) → IsBatchHeader m → HeaderShows m pieces → IsFine batch_header_fault pieces
header_fine m pieces is shown =
    text_fine 1 pieces m.signer_public_key shown.signer_public_key is.signer_public_key
    and texts_fine 2 pieces m.transaction_ids shown.transaction_ids is.transaction_ids

pub batch_header_back : (m : BatchHeader) → IsBatchHeader m → ComesBack batch_header_of batch_header_fault batch_header_pieces m
batch_header_back m is =
    comes_back batch_header_of batch_header_fault batch_header_pieces m is.fits (header_fine m (batch_header_pieces m) is (header_shows m))
    (header_says m (batch_header_pieces m) (header_shows m))

pub batch_header_is_read : BatchHeaderIsReadBack
batch_header_is_read m is = is_read (batch_header_back m is)

-- ---- lists of batches

batches_shown : (m : BatchList) → all_bytes 1 (batch_list_pieces m) ≡ map (λ one. spelled (batch_pieces one)) m.batches
batches_shown m = simp field_values

list_says : (m : BatchList) (pieces : List Piece) → IsBatchList m → all_bytes 1 pieces ≡ map (λ one. spelled (batch_pieces one)) m.batches
    → batch_list_of pieces ≡ m
list_says m pieces is shown = rw (items_back batch_back 1 pieces m.batches shown is.batches) refl

pub batch_list_back : (m : BatchList) → IsBatchList m → ComesBack batch_list_of batch_list_fault batch_list_pieces m
batch_list_back m is =
    comes_back batch_list_of batch_list_fault batch_list_pieces m is.fits
    (items_fine batch_back 1 (batch_list_pieces m) m.batches (batches_shown m) is.batches) (list_says m (batch_list_pieces m) is (batches_shown m))

pub batch_list_is_read : BatchListIsReadBack
batch_list_is_read m is = is_read (batch_list_back m is)
