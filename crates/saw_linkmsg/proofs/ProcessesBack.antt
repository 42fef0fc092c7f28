-- Written transactions of the link and how they ended are read back.
use Rattle.std.proofs.Common.{◌≡◌, List, refl}
use Rattle.std.specs.List.{filter_map}
use Rattle.saw_wire.specs.Pieces.{Piece}
use Rattle.saw_wire.specs.Writing.{spelled}
use Rattle.saw_wire.specs.Fields.{all_bytes, number_in}
use Rattle.saw_wire.proofs.FieldsBack.{field_values, bytes_values, number_values, bytes_back, small_back, message_back, IsFine, ◌and◌, text_fine}
use Rattle.saw_wire.proofs.FieldsBack.{message_fine, ComesBack, comes_back, is_read}
use Rattle.saw_messages.specs.Transactions.{transaction_header_pieces}
use Rattle.saw_messages.proofs.TransactionsBack.{transaction_header_back}
use Rattle.saw_linkmsg.specs.declared.process.TpProcessRequest.{TpProcessRequest}
use Rattle.saw_linkmsg.specs.declared.process.TpProcessResponse.{TpProcessResponse}
use Rattle.saw_linkmsg.specs.ProcessMessages.{tp_process_request_of, tp_process_request_fault, tp_process_request_pieces, tp_process_response_of}
use Rattle.saw_linkmsg.specs.ProcessMessages.{tp_process_response_fault, tp_process_response_pieces}
use Rattle.saw_linkmsg.specs.LinkReadBack.{IsTpProcessRequest, IsTpProcessResponse, TpProcessRequestIsReadBack, TpProcessResponseIsReadBack}

-- ---- transactions

-- what the fields show
record SpelledBy (m : TpProcessRequest) (pieces : List Piece) : Type 0 where
  header : all_bytes 1 pieces ≡ bytes_values (spelled (transaction_header_pieces m.header))
  payload : all_bytes 2 pieces ≡ bytes_values m.payload
  signature : all_bytes 3 pieces ≡ bytes_values m.signature
  context_id : all_bytes 4 pieces ≡ bytes_values m.context_id
  header_bytes : all_bytes 5 pieces ≡ bytes_values m.header_bytes

shows : (m : TpProcessRequest) → SpelledBy m (tp_process_request_pieces m)
shows m = record {
  header = simp field_values;
  payload = simp field_values;
  signature = simp field_values;
  context_id = simp field_values;
  header_bytes = simp field_values;
}

says : (m : TpProcessRequest) (pieces : List Piece) → IsTpProcessRequest m → SpelledBy m pieces → tp_process_request_of pieces ≡ m
says m pieces is shown =
    rw (
      message_back 1 pieces m.header shown.header (transaction_header_back m.header is.header),
      bytes_back 2 pieces m.payload shown.payload,
      bytes_back 3 pieces m.signature shown.signature,
      bytes_back 4 pieces m.context_id shown.context_id,
      bytes_back 5 pieces m.header_bytes shown.header_bytes,
    ) refl

fine : (m : TpProcessRequest) (pieces : List Piece) → IsTpProcessRequest m → SpelledBy m pieces → IsFine tp_process_request_fault pieces
fine m pieces is shown =
    message_fine 1 pieces m.header shown.header (transaction_header_back m.header is.header)
    and text_fine 3 pieces m.signature shown.signature is.signature
    and text_fine 4 pieces m.context_id shown.context_id is.context_id

pub tp_process_request_back : (m : TpProcessRequest) → IsTpProcessRequest m
    → ComesBack tp_process_request_of tp_process_request_fault tp_process_request_pieces m
tp_process_request_back m is =
    comes_back tp_process_request_of tp_process_request_fault tp_process_request_pieces m is.fits
    (fine m (tp_process_request_pieces m) is (shows m))
    (says m (tp_process_request_pieces m) is (shows m))

pub tp_process_request_is_read : TpProcessRequestIsReadBack
tp_process_request_is_read m is = is_read (tp_process_request_back m is)

-- ---- ends of transactions

record ResponseShows (m : TpProcessResponse) (pieces : List Piece) : Type 0 where
  status : filter_map (number_in 1) pieces ≡ number_values m.status
  message : all_bytes 2 pieces ≡ bytes_values m.message

response_shows : (m : TpProcessResponse) → ResponseShows m (tp_process_response_pieces m)
response_shows m = record { status = simp field_values; message = simp field_values }

response_says : (m : TpProcessResponse) (pieces : List Piece) → IsTpProcessResponse m → ResponseShows m pieces → tp_process_response_of pieces ≡ m
response_says m pieces is shown = rw (small_back 1 pieces m.status shown.status is.status, bytes_back 2 pieces m.message shown.message) refl

response_fine : (m : TpProcessResponse) (pieces : List Piece) → IsTpProcessResponse m → ResponseShows m pieces → IsFine tp_process_response_fault pieces
response_fine m pieces is shown = text_fine 2 pieces m.message shown.message is.message

pub tp_process_response_back : (m : TpProcessResponse) → IsTpProcessResponse m
    → ComesBack tp_process_response_of tp_process_response_fault tp_process_response_pieces m
tp_process_response_back m is =
    comes_back tp_process_response_of tp_process_response_fault tp_process_response_pieces m is.fits
    (response_fine m (tp_process_response_pieces m) is (response_shows m))
    (response_says m (tp_process_response_pieces m) is (response_shows m))

pub tp_process_response_is_read : TpProcessResponseIsReadBack
tp_process_response_is_read m is = is_read (tp_process_response_back m is)
