-- Written registrations and the answers to them are read back.
use Rattle.std.proofs.Common.{◌≡◌, List, refl}
use Rattle.std.specs.Prelude.{if◌then◌else◌}
use Rattle.std.specs.List.{filter_map}
use Rattle.saw_wire.specs.Pieces.{Piece}
use Rattle.saw_wire.specs.Fields.{all_bytes, number_in}
use Rattle.saw_wire.proofs.FieldsBack.{field_values, bytes_values, number_values, bytes_back, small_back, flag_back, IsFine, ◌and◌, faultless}
use Rattle.saw_wire.proofs.FieldsBack.{text_fine, texts_fine, ComesBack, comes_back, is_read}
use Rattle.saw_linkmsg.specs.declared.register.TpRegisterRequest.{TpRegisterRequest}
use Rattle.saw_linkmsg.specs.declared.register.TpRegisterResponse.{TpRegisterResponse}
use Rattle.saw_linkmsg.specs.RegisterMessages.{tp_register_request_of, tp_register_request_fault, tp_register_request_pieces, tp_register_response_of}
use Rattle.saw_linkmsg.specs.RegisterMessages.{tp_register_response_fault, tp_register_response_pieces}
use Rattle.saw_linkmsg.specs.LinkReadBack.{IsTpRegisterRequest, IsTpRegisterResponse, TpRegisterRequestIsReadBack, TpRegisterResponseIsReadBack}

-- ---- registrations

-- what the fields show
record SpelledBy (m : TpRegisterRequest) (pieces : List Piece) : Type 0 where
  family : all_bytes 1 pieces ≡ bytes_values m.family
  version : all_bytes 2 pieces ≡ bytes_values m.version
  namespaces : all_bytes 4 pieces ≡ m.namespaces
  protocol_version : filter_map (number_in 6) pieces ≡ number_values m.protocol_version
  more : filter_map (number_in 9) pieces ≡ number_values (if m.more then 1 else 0)

shows : (m : TpRegisterRequest) → SpelledBy m (tp_register_request_pieces m)
shows m = record {
  family = simp field_values;
  version = simp field_values;
  namespaces = simp field_values;
  protocol_version = simp field_values;
  more = simp field_values;
}

says : (m : TpRegisterRequest) (pieces : List Piece) → IsTpRegisterRequest m → SpelledBy m pieces → tp_register_request_of pieces ≡ m
says m pieces is shown =
    rw (
      bytes_back 1 pieces m.family shown.family,
      bytes_back 2 pieces m.version shown.version,
      shown.namespaces,
      small_back 6 pieces m.protocol_version shown.protocol_version is.protocol_version,
      flag_back 9 pieces m.more shown.more,
    ) refl

fine : (m : TpRegisterRequest) (pieces : List Piece) → IsTpRegisterRequest m → SpelledBy m pieces → IsFine tp_register_request_fault pieces
fine m pieces is shown =
    text_fine 1 pieces m.family shown.family is.family
    and text_fine 2 pieces m.version shown.version is.version
    and texts_fine 4 pieces m.namespaces shown.namespaces is.namespaces

pub tp_register_request_back : (m : TpRegisterRequest) → IsTpRegisterRequest m
    → ComesBack tp_register_request_of tp_register_request_fault tp_register_request_pieces m
tp_register_request_back m is =
    comes_back tp_register_request_of tp_register_request_fault tp_register_request_pieces m is.fits
    (fine m (tp_register_request_pieces m) is (shows m))
    (says m (tp_register_request_pieces m) is (shows m))

pub tp_register_request_is_read : TpRegisterRequestIsReadBack
tp_register_request_is_read m is = is_read (tp_register_request_back m is)

-- ---- answers to registrations

record ResponseShows (m : TpRegisterResponse) (pieces : List Piece) : Type 0 where
  status : filter_map (number_in 1) pieces ≡ number_values m.status
  protocol_version : filter_map (number_in 2) pieces ≡ number_values m.protocol_version

response_shows : (m : TpRegisterResponse) → ResponseShows m (tp_register_response_pieces m)
response_shows m = record { status = simp field_values; protocol_version = simp field_values }

response_says : (m : TpRegisterResponse) (pieces : List Piece) → IsTpRegisterResponse m → ResponseShows m pieces → tp_register_response_of pieces ≡ m
response_says m pieces is shown =
    rw (
      small_back 1 pieces m.status shown.status is.status,
      small_back 2 pieces m.protocol_version shown.protocol_version is.protocol_version,
    ) refl

pub tp_register_response_back : (m : TpRegisterResponse) → IsTpRegisterResponse m
    → ComesBack tp_register_response_of tp_register_response_fault tp_register_response_pieces m
tp_register_response_back m is =
    comes_back tp_register_response_of tp_register_response_fault tp_register_response_pieces m is.fits
    (faultless (tp_register_response_pieces m))
    (response_says m (tp_register_response_pieces m) is (response_shows m))

pub tp_register_response_is_read : TpRegisterResponseIsReadBack
tp_register_response_is_read m is = is_read (tp_register_response_back m is)
