-- The events of a block, and which of them a subscription asks for.
use Rattle.std.specs.Prelude.{ℕ, Bool, true, false, ◌&&◌, List, [], ◌∷◌, ◌++◌, map, reverse, codes}
use Rattle.std.specs.List.{filter, flat_map, list_all, list_any}
use Rattle.std.specs.FinMap as finite
use Rattle.std.specs.Fmt.{decimal}
use Rattle.std.specs.Cmp.Lexicographic.{slice_cmp}
use Rattle.std.specs.Ordering.{nat_cmp}
use Rattle.std.specs.Str.{bytes_eq}
use Rattle.hex.specs.Hex.{encode_lower}
use Rattle.saw_messages.specs.declared.receipt.Attribute.{Attribute}
use Rattle.saw_messages.specs.declared.receipt.Event.{Event}
use Rattle.saw_messages.specs.declared.receipt.Receipt.{Receipt}
use Rattle.saw_messages.specs.declared.receipt.StateChange.{StateChange}
use Rattle.saw_receipts.specs.declared.block.BlockRecord.{BlockRecord}
use Rattle.saw_wire.specs.Writing.{spelled}
use Rattle.saw_events.specs.Messages.{changes_pieces}
use Rattle.saw_events.specs.declared.filter.Filter.{Filter}
use Rattle.saw_events.specs.declared.filter.Subscription.{Subscription}

-- ---- the events of a block

abbrev pub attribute : List ℕ → List ℕ → Attribute
attribute key value = record { key = key; value = value }

-- that it was accepted
abbrev pub commit_event : BlockRecord → Event
commit_event block = record {
  event_type = codes "sawtooth/block-commit";
  attributes = attribute (codes "block_id") block.id ∷ attribute (codes "block_num") (decimal block.number)
      ∷ attribute (codes "state_root_hash") (encode_lower block.root) ∷ attribute (codes "previous_block_id") block.previous ∷ [];
  body = [];
}

-- the receipts of its transactions, in order
abbrev pub receipts_in : BlockRecord → List Receipt
receipts_in block = flat_map (λ batch. batch.receipts) block.batches

-- the changes of its transactions, in order
abbrev pub changes_in : BlockRecord → List StateChange
changes_in block = flat_map (λ receipt. receipt.state_changes) (receipts_in block)

-- the last of these changes at each address
abbrev pub last_by_address : List StateChange → finite.FinMap (slice_cmp nat_cmp) StateChange
last_by_address changes = finite.from_entries (map (λ change. (change.address, change)) (reverse changes))

-- the same in the order of the addresses' digits
abbrev pub last_changes : List StateChange → List StateChange
last_changes changes = finite.values (last_by_address changes)

-- where
abbrev pub delta_attributes : List StateChange → List Attribute
delta_attributes changes = map (λ change. attribute (codes "address") change.address) changes

-- what it left of the state
abbrev pub delta_event : BlockRecord → Event
delta_event block = let changes = last_changes (changes_in block) in record {
  event_type = codes "sawtooth/state-delta";
  attributes = delta_attributes changes;
  body = spelled (changes_pieces (record { state_changes = changes }));
}

-- that it was accepted, and what it left of the state
abbrev pub own_events : BlockRecord → List Event
own_events block = commit_event block ∷ delta_event block ∷ []

-- then what its transactions told
abbrev pub events_of : BlockRecord → List Event
events_of block = own_events block ++ flat_map (λ receipt. receipt.events) (receipts_in block)

-- ---- what is asked for

-- the texts of the attributes with this key
abbrev pub texts_at : List ℕ → List Attribute → List (List ℕ)
texts_at key attributes = map (λ one. one.value) (filter (λ one. bytes_eq one.key key) attributes)

-- whether texts meet a wish: one of them is this, or there are some and all are
abbrev pub meets : Bool → List ℕ → List (List ℕ) → Bool
meets all text [] = false
meets false text texts = list_any (λ one. bytes_eq one text) texts
meets true text texts = list_all (λ one. bytes_eq one text) texts

-- a filter wants its text at its key
abbrev pub passes : Filter → Event → Bool
passes wanted event = meets wanted.all wanted.text (texts_at wanted.key event.attributes)

-- a subscription asks for the events of its type that pass each of its filters
abbrev pub matches : Subscription → Event → Bool
matches wish event = bytes_eq event.event_type wish.event_type && list_all (λ wanted. passes wanted event) wish.filters

-- whether one of these asks for it
abbrev pub is_wanted : List Subscription → Event → Bool
is_wanted wishes event = list_any (λ wish. matches wish event) wishes
