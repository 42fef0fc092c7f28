-- Written receipts, their changes and their events are read back.
use Rattle.std.proofs.Common.{◌≡◌, List, map, refl}
use Rattle.std.specs.List.{filter_map}
use Rattle.saw_wire.specs.Pieces.{Piece}
use Rattle.saw_wire.specs.Writing.{spelled}
use Rattle.saw_wire.specs.Fields.{all_bytes, number_in}
use Rattle.saw_wire.proofs.FieldsBack.{field_values, bytes_values, number_values, bytes_back, small_back, items_back, IsFine, ◌and◌, text_fine}
use Rattle.saw_wire.proofs.FieldsBack.{items_fine, ComesBack, comes_back, is_read}
use Rattle.saw_messages.specs.declared.receipt.Attribute.{Attribute}
use Rattle.saw_messages.specs.declared.receipt.Event.{Event}
use Rattle.saw_messages.specs.declared.receipt.Receipt.{Receipt}
use Rattle.saw_messages.specs.declared.receipt.StateChange.{StateChange}
use Rattle.saw_messages.specs.Receipts.{attribute_of, attribute_fault, attribute_pieces, event_of, event_fault, event_pieces, state_change_of}
use Rattle.saw_messages.specs.Receipts.{state_change_fault, state_change_pieces, receipt_of, receipt_fault, receipt_pieces}
use Rattle.saw_messages.specs.ReadBack.{IsAttribute, IsEvent, IsStateChange, IsReceipt, EventIsReadBack, StateChangeIsReadBack, ReceiptIsReadBack}

-- ---- attributes

-- what the fields show
record AttributeShows (m : Attribute) (pieces : List Piece) : Type 0 where
  key : all_bytes 1 pieces ≡ bytes_values m.key
  value : all_bytes 2 pieces ≡ bytes_values m.value

attribute_shows : (m : Attribute) → AttributeShows m (attribute_pieces m)
attribute_shows m = record { key = simp field_values; value = simp field_values }

attribute_says : (m : Attribute) (pieces : List Piece) → AttributeShows m pieces → attribute_of pieces ≡ m
attribute_says m pieces shown = rw (bytes_back 1 pieces m.key shown.key, bytes_back 2 pieces m.value shown.value) refl

attribute_fine : (m : Attribute) (pieces : List Piece) → IsAttribute m → AttributeShows m pieces → IsFine attribute_fault pieces
attribute_fine m pieces is shown = text_fine 1 pieces m.key shown.key is.key and text_fine 2 pieces m.value shown.value is.value

pub attribute_back : (m : Attribute) → IsAttribute m → ComesBack attribute_of attribute_fault attribute_pieces m
attribute_back m is =
    comes_back attribute_of attribute_fault attribute_pieces m is.fits (attribute_fine m (attribute_pieces m) is (attribute_shows m))
    (attribute_says m (attribute_pieces m) (attribute_shows m))

-- ---- events

record EventShows (m : Event) (pieces : List Piece) : Type 0 where
  event_type : all_bytes 1 pieces ≡ bytes_values m.event_type
  attributes : all_bytes 2 pieces ≡ map (λ one. spelled (attribute_pieces one)) m.attributes
  body : all_bytes 3 pieces ≡ bytes_values m.body

event_shows : (m : Event) → EventShows m (event_pieces m)
event_shows m = record { event_type = simp field_values; attributes = simp field_values; body = simp field_values }

event_says : (m : Event) (pieces : List Piece) → IsEvent m → EventShows m pieces → event_of pieces ≡ m
event_says m pieces is shown =
    rw (
      bytes_back 1 pieces m.event_type shown.event_type,
      items_back attribute_back 2 pieces m.attributes shown.attributes is.attributes,
      bytes_back
          3 pieces m.body shown.body,
    ) refl

event_fine : (m : Event) (pieces : List Piece) → IsEvent m → EventShows m pieces → IsFine event_fault pieces
event_fine m pieces is shown =
    text_fine 1 pieces m.event_type shown.event_type is.event_type
    and items_fine attribute_back 2 pieces m.attributes shown.attributes is.attributes

pub event_back : (m : Event) → IsEvent m → ComesBack event_of event_fault event_pieces m
event_back m is = comes_back event_of event_fault event_pieces m is.fits (event_fine m (event_pieces m) is (event_shows m))
    (event_says m (event_pieces m) is (event_shows m))

pub event_is_read : EventIsReadBack
event_is_read m is = is_read (event_back m is)

-- ---- changes

record ChangeShows (m : StateChange) (pieces : List Piece) : Type 0 where
  address : all_bytes 1 pieces ≡ bytes_values m.address
  value : all_bytes 2 pieces ≡ bytes_values m.value
  kind : filter_map (number_in 3) pieces ≡ number_values m.kind

change_shows : (m : StateChange) → ChangeShows m (state_change_pieces m)
change_shows m = record { address = simp field_values; value = simp field_values; kind = simp field_values }

change_says : (m : StateChange) (pieces : List Piece) → IsStateChange m → ChangeShows m pieces → state_change_of pieces ≡ m
change_says m pieces is shown =
    rw (bytes_back 1 pieces m.address shown.address, bytes_back 2 pieces m.value shown.value, small_back 3 pieces m.kind shown.kind is.kind) refl

change_fine : (m : StateChange) (pieces : List Piece) → IsStateChange m → ChangeShows m pieces → IsFine state_change_fault pieces
change_fine m pieces is shown = text_fine 1 pieces m.address shown.address is.address

pub state_change_back : (m : StateChange) → IsStateChange m → ComesBack state_change_of state_change_fault state_change_pieces m
state_change_back m is =
    comes_back state_change_of state_change_fault state_change_pieces m is.fits (change_fine m (state_change_pieces m) is (change_shows m))
    (change_says m (state_change_pieces m) is (change_shows m))

pub state_change_is_read : StateChangeIsReadBack
state_change_is_read m is = is_read (state_change_back m is)

-- ---- receipts

record ReceiptShows (m : Receipt) (pieces : List Piece) : Type 0 where
  state_changes : all_bytes 1 pieces ≡ map (λ one. spelled (state_change_pieces one)) m.state_changes
  events : all_bytes 2 pieces ≡ map (λ one. spelled (event_pieces one)) m.events
  body : all_bytes 3 pieces ≡ m.body
  transaction_id : all_bytes 4 pieces ≡ bytes_values m.transaction_id

receipt_shows : (m : Receipt) → ReceiptShows m (receipt_pieces m)
receipt_shows m = record { state_changes = simp field_values; events = simp field_values; body = simp field_values; transaction_id = simp field_values }

receipt_says : (m : Receipt) (pieces : List Piece) → IsReceipt m → ReceiptShows m pieces → receipt_of pieces ≡ m
receipt_says m pieces is shown =
    rw (
      items_back state_change_back 1 pieces m.state_changes shown.state_changes is.state_changes,
      items_back event_back 2 pieces m.events shown.events is.events,
      shown.body,
      bytes_back 4 pieces m.transaction_id shown.transaction_id,
    ) refl

receipt_fine : (m : Receipt) (pieces : List Piece) → IsReceipt m → ReceiptShows m pieces → IsFine receipt_fault pieces
receipt_fine m pieces is shown =
    items_fine state_change_back 1 pieces m.state_changes shown.state_changes is.state_changes
    and items_fine event_back 2 pieces m.events shown.events is.events
    and text_fine 4 pieces m.transaction_id shown.transaction_id is.transaction_id

pub receipt_back : (m : Receipt) → IsReceipt m → ComesBack receipt_of receipt_fault receipt_pieces m
receipt_back m is =
    comes_back receipt_of receipt_fault receipt_pieces m is.fits (receipt_fine m (receipt_pieces m) is (receipt_shows m))
    (receipt_says m (receipt_pieces m) is (receipt_shows m))

pub receipt_is_read : ReceiptIsReadBack
receipt_is_read m is = is_read (receipt_back m is)
