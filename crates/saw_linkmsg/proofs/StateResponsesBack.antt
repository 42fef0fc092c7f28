-- Written answers to requests for entries are read back.
use Rattle.std.proofs.Common.{◌≡◌, List, map, refl}
use Rattle.std.specs.List.{filter_map}
use Rattle.saw_wire.specs.Pieces.{Piece}
use Rattle.saw_wire.specs.Writing.{spelled}
use Rattle.saw_wire.specs.Fields.{all_bytes, number_in}
use Rattle.saw_wire.proofs.FieldsBack.{field_values, number_values, small_back, items_back, IsFine, texts_fine, items_fine, ComesBack, comes_back}
use Rattle.saw_wire.proofs.FieldsBack.{is_read}
use Rattle.saw_linkmsg.specs.declared.state.TpStateGetResponse.{TpStateGetResponse}
use Rattle.saw_linkmsg.specs.declared.state.TpStateSetResponse.{TpStateSetResponse}
use Rattle.saw_linkmsg.specs.declared.state.TpStateDeleteResponse.{TpStateDeleteResponse}
use Rattle.saw_linkmsg.specs.StateMessages.{tp_state_get_response_of, tp_state_get_response_fault, tp_state_get_response_pieces}
use Rattle.saw_linkmsg.specs.StateMessages.{tp_state_set_response_of, tp_state_set_response_fault, tp_state_set_response_pieces}
use Rattle.saw_linkmsg.specs.StateMessages.{tp_state_delete_response_of, tp_state_delete_response_fault, tp_state_delete_response_pieces}
use Rattle.saw_linkmsg.specs.StateMessages.{tp_state_entry_pieces}
use Rattle.saw_linkmsg.specs.LinkReadBack.{IsTpStateGetResponse, IsTpStateSetResponse, IsTpStateDeleteResponse, TpStateGetResponseIsReadBack}
use Rattle.saw_linkmsg.specs.LinkReadBack.{TpStateSetResponseIsReadBack, TpStateDeleteResponseIsReadBack}
use Rattle.saw_linkmsg.proofs.StateRequestsBack.{tp_state_entry_back}

-- ---- answers to requests to read

-- what the fields show
record GetShows (m : TpStateGetResponse) (pieces : List Piece) : Type 0 where
  entries : all_bytes 1 pieces ≡ map (λ one. spelled (tp_state_entry_pieces one)) m.entries
  status : filter_map (number_in 2) pieces ≡ number_values m.status

get_shows : (m : TpStateGetResponse) → GetShows m (tp_state_get_response_pieces m)
get_shows m = record { entries = simp field_values; status = simp field_values }

get_says : (m : TpStateGetResponse) (pieces : List Piece) → IsTpStateGetResponse m → GetShows m pieces → tp_state_get_response_of pieces ≡ m
get_says m pieces is shown =
    rw (
      items_back tp_state_entry_back 1 pieces m.entries shown.entries is.entries,
      small_back 2 pieces m.status shown.status is.status,
    ) refl

get_fine : (m : TpStateGetResponse) (pieces : List Piece) → IsTpStateGetResponse m → GetShows m pieces → IsFine tp_state_get_response_fault pieces
get_fine m pieces is shown = items_fine tp_state_entry_back 1 pieces m.entries shown.entries is.entries

pub tp_state_get_response_back : (m : TpStateGetResponse) → IsTpStateGetResponse m
    → ComesBack tp_state_get_response_of tp_state_get_response_fault tp_state_get_response_pieces m
tp_state_get_response_back m is =
    comes_back tp_state_get_response_of tp_state_get_response_fault tp_state_get_response_pieces m is.fits
    (get_fine m (tp_state_get_response_pieces m) is (get_shows m))
    (get_says m (tp_state_get_response_pieces m) is (get_shows m))

pub tp_state_get_response_is_read : TpStateGetResponseIsReadBack
tp_state_get_response_is_read m is = is_read (tp_state_get_response_back m is)

-- ---- answers to requests to write

record SetShows (m : TpStateSetResponse) (pieces : List Piece) : Type 0 where
  addresses : all_bytes 1 pieces ≡ m.addresses
  status : filter_map (number_in 2) pieces ≡ number_values m.status

set_shows : (m : TpStateSetResponse) → SetShows m (tp_state_set_response_pieces m)
set_shows m = record { addresses = simp field_values; status = simp field_values }

set_says : (m : TpStateSetResponse) (pieces : List Piece) → IsTpStateSetResponse m → SetShows m pieces → tp_state_set_response_of pieces ≡ m
set_says m pieces is shown = rw (shown.addresses, small_back 2 pieces m.status shown.status is.status) refl

set_fine : (m : TpStateSetResponse) (pieces : List Piece) → IsTpStateSetResponse m → SetShows m pieces → IsFine tp_state_set_response_fault pieces
set_fine m pieces is shown = texts_fine 1 pieces m.addresses shown.addresses is.addresses

pub tp_state_set_response_back : (m : TpStateSetResponse) → IsTpStateSetResponse m
    → ComesBack tp_state_set_response_of tp_state_set_response_fault tp_state_set_response_pieces m
tp_state_set_response_back m is =
    comes_back tp_state_set_response_of tp_state_set_response_fault tp_state_set_response_pieces m is.fits
    (set_fine m (tp_state_set_response_pieces m) is (set_shows m))
    (set_says m (tp_state_set_response_pieces m) is (set_shows m))

pub tp_state_set_response_is_read : TpStateSetResponseIsReadBack
tp_state_set_response_is_read m is = is_read (tp_state_set_response_back m is)

-- ---- answers to requests to delete

record DeleteShows (m : TpStateDeleteResponse) (pieces : List Piece) : Type 0 where
  addresses : all_bytes 1 pieces ≡ m.addresses
  status : filter_map (number_in 2) pieces ≡ number_values m.status

delete_shows : (m : TpStateDeleteResponse) → DeleteShows m (tp_state_delete_response_pieces m)
delete_shows m = record { addresses = simp field_values; status = simp field_values }

delete_says : (m : TpStateDeleteResponse) (pieces : List Piece) → IsTpStateDeleteResponse m → DeleteShows m pieces → tp_state_delete_response_of pieces ≡ m
delete_says m pieces is shown = rw (shown.addresses, small_back 2 pieces m.status shown.status is.status) refl

delete_fine : (m : TpStateDeleteResponse) (pieces : List Piece) → IsTpStateDeleteResponse m → DeleteShows m pieces
    → IsFine tp_state_delete_response_fault pieces
delete_fine m pieces is shown = texts_fine 1 pieces m.addresses shown.addresses is.addresses

pub tp_state_delete_response_back : (m : TpStateDeleteResponse) → IsTpStateDeleteResponse m
    → ComesBack tp_state_delete_response_of tp_state_delete_response_fault tp_state_delete_response_pieces m
tp_state_delete_response_back m is =
    comes_back tp_state_delete_response_of tp_state_delete_response_fault tp_state_delete_response_pieces m is.fits
    (delete_fine m (tp_state_delete_response_pieces m) is (delete_shows m))
    (delete_says m (tp_state_delete_response_pieces m) is (delete_shows m))

pub tp_state_delete_response_is_read : TpStateDeleteResponseIsReadBack
tp_state_delete_response_is_read m is = is_read (tp_state_delete_response_back m is)
