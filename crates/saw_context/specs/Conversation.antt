-- The conversation of a transaction's processor with a map, through the prefixes that the transaction declares.
use Rattle.std.specs.Prelude.{ℕ, Bool, false, ◌&&◌, not, List, [], ◌∷◌, ◌++◌, map, Option, Some, None, is_some, position, nat_eq}
use Rattle.std.specs.Ordering.{nat_cmp}
use Rattle.std.specs.Cmp.Lexicographic.{slice_cmp}
use Rattle.std.specs.List.{list_any, starts_with}
use Rattle.std.specs.FinMap as finite
use Rattle.hex.specs.Hex.{encode_lower}
use Rattle.saw_address.specs.Maps.{StateMap, is_address, value_at}
use Rattle.saw_address.specs.Texts.{is_prefix_text}
use Rattle.saw_messages.specs.declared.transaction.TransactionHeader.{TransactionHeader}
use Rattle.saw_messages.specs.declared.receipt.Event.{Event}
use Rattle.saw_messages.specs.declared.talk.Place.{Place}
use Rattle.saw_messages.specs.declared.talk.Place.TheVariants.{At, Bad}
use Rattle.saw_messages.specs.declared.talk.Entry.{Entry}
use Rattle.saw_messages.specs.declared.talk.Action.{Action}
use Rattle.saw_messages.specs.declared.talk.Action.TheVariants as actions
use Rattle.saw_messages.specs.declared.talk.Reply.{Reply}
use Rattle.saw_messages.specs.declared.talk.Reply.TheVariants.{Entries, Done, Unauthorized}

-- ---- what is declared

-- a declared text covers the addresses whose hex digits begin with it; a text that is no prefix covers none
abbrev pub text_covers : List ℕ → List ℕ → Bool
text_covers text address = is_prefix_text text && starts_with nat_eq (encode_lower address) text

abbrev pub are_covering : List (List ℕ) → List ℕ → Bool
are_covering texts address = list_any (λ text. text_covers text address) texts

-- a place is granted where it is an address that one of the texts covers
abbrev pub is_granted : List (List ℕ) → Place → Bool
is_granted texts (At address) = is_address address && are_covering texts address
is_granted texts Bad = false

-- the index of the first place that is no address or that none of the texts covers
abbrev pub first_refused : List (List ℕ) → List Place → Option ℕ
first_refused texts places = position (λ place. not (is_granted texts place)) places

-- ---- what a transaction has changed so far

-- the last change at each address: a value, or none for a deletion
abbrev pub Overlay : Type 0
Overlay = finite.FinMap (slice_cmp nat_cmp) (Option (List ℕ))

abbrev pub body_of : Option (List ℕ) → List ℕ
body_of None = []
body_of (Some body) = body

-- the own change where there is one, else what the map has
abbrev pub seen_by : Option (Option (List ℕ)) → Option (List ℕ) → List ℕ
seen_by None below = body_of below
seen_by (Some change) below = body_of change

-- what a transaction reads at an address: empty bytes where there is no entry
abbrev pub seen_at : StateMap → Overlay → List ℕ → List ℕ
seen_at m own address = seen_by (finite.get own address) (value_at m address)

-- the same of a place; what is no address has nothing
abbrev pub seen_place : StateMap → Overlay → Place → List ℕ
seen_place m own (At address) = seen_at m own address
seen_place m own Bad = []

-- a change at a place; what is no address is not changed
abbrev pub put_at : Overlay → Place → Option (List ℕ) → Overlay
put_at own (At address) value = finite.insert own address value
put_at own Bad value = own

abbrev pub set_all : Overlay → List Entry → Overlay
set_all own [] = own
set_all own (entry ∷ entries) = set_all (put_at own entry.place (Some entry.body)) entries

abbrev pub delete_all : Overlay → List Place → Overlay
delete_all own [] = own
delete_all own (place ∷ places) = delete_all (put_at own place None) places

-- ---- one request

-- a request is refused whole where one of its places is
abbrev pub unless_refused : {A : Type 0} → Option ℕ → (ℕ → A) → A → A
unless_refused None refused granted = granted
unless_refused (Some index) refused granted = refused index

abbrev pub places_of : List Entry → List Place
places_of entries = map (λ entry. entry.place) entries

-- the reply that the declared prefixes and the map allow
abbrev pub reply_to : TransactionHeader → StateMap → Overlay → Action → Reply
reply_to header m own (actions.Get places) = unless_refused (first_refused header.inputs places) Unauthorized (Entries (map (seen_place m own) places))
reply_to header m own (actions.Set entries) = unless_refused (first_refused header.outputs (places_of entries)) Unauthorized Done
reply_to header m own (actions.Delete places) = unless_refused (first_refused header.outputs places) Unauthorized Done
reply_to header m own _ = Done

-- what is changed after a request
abbrev pub own_after : TransactionHeader → Overlay → Action → Overlay
own_after header own (actions.Set entries) = unless_refused (first_refused header.outputs (places_of entries)) (λ index. own) (set_all own entries)
own_after header own (actions.Delete places) = unless_refused (first_refused header.outputs places) (λ index. own) (delete_all own places)
own_after header own _ = own

-- the events after a request
abbrev pub events_after : List Event → Action → List Event
events_after events (actions.AddEvent event) = events ++ event ∷ []
events_after events _ = events

-- ---- what was read

-- an address that was read, and whether the transaction had changed it before
pub record Asked : Type 0 where
  pub address : List ℕ
  pub own : Bool

abbrev pub address_in : Place → List ℕ
address_in (At address) = address
address_in Bad = []

abbrev pub asked_at : Overlay → Place → Asked
asked_at own place = record { address = address_in place; own = is_some (finite.get own (address_in place)) }

-- what a request reads: each place of a request that is answered with entries
abbrev pub asked_by : TransactionHeader → Overlay → Action → List Asked
asked_by header own (actions.Get places) = unless_refused (first_refused header.inputs places) (λ index. []) (map (asked_at own) places)
asked_by header own _ = []
