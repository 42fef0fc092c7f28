-- Written entries and requests for entries are read back.
use Rattle.std.proofs.Common.{◌≡◌, List, map, refl}
use Rattle.saw_wire.specs.Pieces.{Piece}
use Rattle.saw_wire.specs.Writing.{spelled}
use Rattle.saw_wire.specs.Fields.{all_bytes}
use Rattle.saw_wire.proofs.FieldsBack.{field_values, bytes_values, bytes_back, items_back, IsFine, ◌and◌, text_fine, texts_fine, items_fine}
use Rattle.saw_wire.proofs.FieldsBack.{ComesBack, comes_back, is_read}
use Rattle.saw_linkmsg.specs.declared.state.TpStateEntry.{TpStateEntry}
use Rattle.saw_linkmsg.specs.declared.state.TpStateGetRequest.{TpStateGetRequest}
use Rattle.saw_linkmsg.specs.declared.state.TpStateSetRequest.{TpStateSetRequest}
use Rattle.saw_linkmsg.specs.declared.state.TpStateDeleteRequest.{TpStateDeleteRequest}
use Rattle.saw_linkmsg.specs.StateMessages.{tp_state_entry_of, tp_state_entry_fault, tp_state_entry_pieces, tp_state_get_request_of}
use Rattle.saw_linkmsg.specs.StateMessages.{tp_state_get_request_fault, tp_state_get_request_pieces, tp_state_set_request_of}
use Rattle.saw_linkmsg.specs.StateMessages.{tp_state_set_request_fault, tp_state_set_request_pieces, tp_state_delete_request_of}
use Rattle.saw_linkmsg.specs.StateMessages.{tp_state_delete_request_fault, tp_state_delete_request_pieces}
use Rattle.saw_linkmsg.specs.LinkReadBack.{IsTpStateEntry, IsTpStateGetRequest, IsTpStateSetRequest, IsTpStateDeleteRequest, TpStateEntryIsReadBack}
use Rattle.saw_linkmsg.specs.LinkReadBack.{TpStateGetRequestIsReadBack, TpStateSetRequestIsReadBack, TpStateDeleteRequestIsReadBack}

-- ---- entries

-- what the fields show
record EntryShows (m : TpStateEntry) (pieces : List Piece) : Type 0 where
  address : all_bytes 1 pieces ≡ bytes_values m.address
  body : all_bytes 2 pieces ≡ bytes_values m.body

entry_shows : (m : TpStateEntry) → EntryShows m (tp_state_entry_pieces m)
entry_shows m = record { address = simp field_values; body = simp field_values }

entry_says : (m : TpStateEntry) (pieces : List Piece) → EntryShows m pieces → tp_state_entry_of pieces ≡ m
entry_says m pieces shown = rw (bytes_back 1 pieces m.address shown.address, bytes_back 2 pieces m.body shown.body) refl

entry_fine : (m : TpStateEntry) (pieces : List Piece) → IsTpStateEntry m → EntryShows m pieces → IsFine tp_state_entry_fault pieces
entry_fine m pieces is shown = text_fine 1 pieces m.address shown.address is.address

pub tp_state_entry_back : (m : TpStateEntry) → IsTpStateEntry m → ComesBack tp_state_entry_of tp_state_entry_fault tp_state_entry_pieces m
tp_state_entry_back m is =
    comes_back tp_state_entry_of tp_state_entry_fault tp_state_entry_pieces m is.fits
    (entry_fine m (tp_state_entry_pieces m) is (entry_shows m))
    (entry_says m (tp_state_entry_pieces m) (entry_shows m))

pub tp_state_entry_is_read : TpStateEntryIsReadBack
tp_state_entry_is_read m is = is_read (tp_state_entry_back m is)

-- ---- requests to read

record GetShows (m : TpStateGetRequest) (pieces : List Piece) : Type 0 where
  context_id : all_bytes 1 pieces ≡ bytes_values m.context_id
  addresses : all_bytes 2 pieces ≡ m.addresses

get_shows : (m : TpStateGetRequest) → GetShows m (tp_state_get_request_pieces m)
get_shows m = record { context_id = simp field_values; addresses = simp field_values }

get_says : (m : TpStateGetRequest) (pieces : List Piece) → GetShows m pieces → tp_state_get_request_of pieces ≡ m
get_says m pieces shown = rw (bytes_back 1 pieces m.context_id shown.context_id, shown.addresses) refl

get_fine : (m : TpStateGetRequest) (pieces : List Piece) → IsTpStateGetRequest m → GetShows m pieces → IsFine tp_state_get_request_fault pieces
get_fine m pieces is shown =
    text_fine 1 pieces m.context_id shown.context_id is.context_id
    and texts_fine 2 pieces m.addresses shown.addresses is.addresses

pub tp_state_get_request_back : (m : TpStateGetRequest) → IsTpStateGetRequest m
    → ComesBack tp_state_get_request_of tp_state_get_request_fault tp_state_get_request_pieces m
tp_state_get_request_back m is =
    comes_back tp_state_get_request_of tp_state_get_request_fault tp_state_get_request_pieces m is.fits
    (get_fine m (tp_state_get_request_pieces m) is (get_shows m))
    (get_says m (tp_state_get_request_pieces m) (get_shows m))

pub tp_state_get_request_is_read : TpStateGetRequestIsReadBack
tp_state_get_request_is_read m is = is_read (tp_state_get_request_back m is)

-- ---- requests to write

record SetShows (m : TpStateSetRequest) (pieces : List Piece) : Type 0 where
  context_id : all_bytes 1 pieces ≡ bytes_values m.context_id
  entries : all_bytes 2 pieces ≡ map (λ one. spelled (tp_state_entry_pieces one)) m.entries

set_shows : (m : TpStateSetRequest) → SetShows m (tp_state_set_request_pieces m)
set_shows m = record { context_id = simp field_values; entries = simp field_values }

set_says : (m : TpStateSetRequest) (pieces : List Piece) → IsTpStateSetRequest m → SetShows m pieces → tp_state_set_request_of pieces ≡ m
set_says m pieces is shown =
    rw (
      bytes_back 1 pieces m.context_id shown.context_id,
      items_back tp_state_entry_back 2 pieces m.entries shown.entries is.entries,
    ) refl

set_fine : (m : TpStateSetRequest) (pieces : List Piece) → IsTpStateSetRequest m → SetShows m pieces → IsFine tp_state_set_request_fault pieces
set_fine m pieces is shown =
    text_fine 1 pieces m.context_id shown.context_id is.context_id
    and items_fine tp_state_entry_back 2 pieces m.entries shown.entries is.entries

pub tp_state_set_request_back : (m : TpStateSetRequest) → IsTpStateSetRequest m
    → ComesBack tp_state_set_request_of tp_state_set_request_fault tp_state_set_request_pieces m
tp_state_set_request_back m is =
    comes_back tp_state_set_request_of tp_state_set_request_fault tp_state_set_request_pieces m is.fits
    (set_fine m (tp_state_set_request_pieces m) is (set_shows m))
    (set_says m (tp_state_set_request_pieces m) is (set_shows m))

pub tp_state_set_request_is_read : TpStateSetRequestIsReadBack
tp_state_set_request_is_read m is = is_read (tp_state_set_request_back m is)

-- ---- requests to delete

record DeleteShows (m : TpStateDeleteRequest) (pieces : List Piece) : Type 0 where
  context_id : all_bytes 1 pieces ≡ bytes_values m.context_id
  addresses : all_bytes 2 pieces ≡ m.addresses

delete_shows : (m : TpStateDeleteRequest) → DeleteShows m (tp_state_delete_request_pieces m)
delete_shows m = record { context_id = simp field_values; addresses = simp field_values }

delete_says : (m : TpStateDeleteRequest) (pieces : List Piece) → DeleteShows m pieces → tp_state_delete_request_of pieces ≡ m
delete_says m pieces shown = rw (bytes_back 1 pieces m.context_id shown.context_id, shown.addresses) refl

delete_fine : (m : TpStateDeleteRequest) (pieces : List Piece) → IsTpStateDeleteRequest m → DeleteShows m pieces → IsFine tp_state_delete_request_fault pieces
delete_fine m pieces is shown =
    text_fine 1 pieces m.context_id shown.context_id is.context_id
    and texts_fine 2 pieces m.addresses shown.addresses is.addresses

pub tp_state_delete_request_back : (m : TpStateDeleteRequest) → IsTpStateDeleteRequest m
    → ComesBack tp_state_delete_request_of tp_state_delete_request_fault tp_state_delete_request_pieces m
tp_state_delete_request_back m is =
    comes_back tp_state_delete_request_of tp_state_delete_request_fault tp_state_delete_request_pieces m is.fits
    (delete_fine m (tp_state_delete_request_pieces m) is (delete_shows m))
    (delete_says m (tp_state_delete_request_pieces m) (delete_shows m))

pub tp_state_delete_request_is_read : TpStateDeleteRequestIsReadBack
tp_state_delete_request_is_read m is = is_read (tp_state_delete_request_back m is)
