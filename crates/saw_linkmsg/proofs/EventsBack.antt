-- Written requests to add an event and the answers to them are read back.
use Rattle.std.proofs.Common.{◌≡◌, List, refl}
use Rattle.std.specs.List.{filter_map}
use Rattle.saw_wire.specs.Pieces.{Piece}
use Rattle.saw_wire.specs.Writing.{spelled}
use Rattle.saw_wire.specs.Fields.{all_bytes, number_in}
use Rattle.saw_wire.proofs.FieldsBack.{field_values, bytes_values, number_values, bytes_back, small_back, message_back, IsFine, ◌and◌, faultless}
use Rattle.saw_wire.proofs.FieldsBack.{text_fine, message_fine, ComesBack, comes_back, is_read}
use Rattle.saw_messages.specs.Receipts.{event_pieces}
use Rattle.saw_messages.proofs.ReceiptsBack.{event_back}
use Rattle.saw_linkmsg.specs.declared.events.TpEventAddRequest.{TpEventAddRequest}
use Rattle.saw_linkmsg.specs.declared.events.TpEventAddResponse.{TpEventAddResponse}
use Rattle.saw_linkmsg.specs.EventMessages.{tp_event_add_request_of, tp_event_add_request_fault, tp_event_add_request_pieces}
use Rattle.saw_linkmsg.specs.EventMessages.{tp_event_add_response_of, tp_event_add_response_fault, tp_event_add_response_pieces}
use Rattle.saw_linkmsg.specs.LinkReadBack.{IsTpEventAddRequest, IsTpEventAddResponse, TpEventAddRequestIsReadBack, TpEventAddResponseIsReadBack}

-- ---- requests to add an event

-- what the fields show
record SpelledBy (m : TpEventAddRequest) (pieces : List Piece) : Type 0 where
  context_id : all_bytes 1 pieces ≡ bytes_values m.context_id
  event : all_bytes 2 pieces ≡ bytes_values (spelled (event_pieces m.event))

shows : (m : TpEventAddRequest) → SpelledBy m (tp_event_add_request_pieces m)
shows m = record { context_id = simp field_values; event = simp field_values }

says : (m : TpEventAddRequest) (pieces : List Piece) → IsTpEventAddRequest m → SpelledBy m pieces → tp_event_add_request_of pieces ≡ m
says m pieces is shown =
    rw (
      bytes_back 1 pieces m.context_id shown.context_id,
      message_back 2 pieces m.event shown.event (event_back m.event is.event),
    ) refl

fine : (m : TpEventAddRequest) (pieces : List Piece) → IsTpEventAddRequest m → SpelledBy m pieces → IsFine tp_event_add_request_fault pieces
fine m pieces is shown =
    text_fine 1 pieces m.context_id shown.context_id is.context_id
    and message_fine 2 pieces m.event shown.event (event_back m.event is.event)

pub tp_event_add_request_back : (m : TpEventAddRequest) → IsTpEventAddRequest m
    → ComesBack tp_event_add_request_of tp_event_add_request_fault tp_event_add_request_pieces m
tp_event_add_request_back m is =
    comes_back tp_event_add_request_of tp_event_add_request_fault tp_event_add_request_pieces m is.fits
    (fine m (tp_event_add_request_pieces m) is (shows m))
    (says m (tp_event_add_request_pieces m) is (shows m))

pub tp_event_add_request_is_read : TpEventAddRequestIsReadBack
tp_event_add_request_is_read m is = is_read (tp_event_add_request_back m is)

-- ---- answers to requests to add an event

record ResponseShows (m : TpEventAddResponse) (pieces : List Piece) : Type 0 where
  status : filter_map (number_in 2) pieces ≡ number_values m.status

response_shows : (m : TpEventAddResponse) → ResponseShows m (tp_event_add_response_pieces m)
response_shows m = record { status = simp field_values }

response_says : (m : TpEventAddResponse) (pieces : List Piece) → IsTpEventAddResponse m → ResponseShows m pieces → tp_event_add_response_of pieces ≡ m
response_says m pieces is shown = rw (small_back 2 pieces m.status shown.status is.status) refl

pub tp_event_add_response_back : (m : TpEventAddResponse) → IsTpEventAddResponse m
    → ComesBack tp_event_add_response_of tp_event_add_response_fault tp_event_add_response_pieces m
tp_event_add_response_back m is =
    comes_back tp_event_add_response_of tp_event_add_response_fault tp_event_add_response_pieces m is.fits
    (faultless (tp_event_add_response_pieces m))
    (response_says m (tp_event_add_response_pieces m) is (response_shows m))

pub tp_event_add_response_is_read : TpEventAddResponseIsReadBack
tp_event_add_response_is_read m is = is_read (tp_event_add_response_back m is)
