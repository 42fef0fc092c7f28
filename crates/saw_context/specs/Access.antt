-- What a transaction may reach, and what it has done so far.
use Rattle.std.specs.Prelude.{◌≡◌, ℕ, List, [], ◌++◌, map, nat_lt, Option, Some, None, if◌then◌else◌}
use Rattle.std.specs.FinMap as finite
use Rattle.saw_address.specs.Maps.{StateMap}
use Rattle.saw_messages.specs.declared.receipt.Event.{Event}
use Rattle.saw_messages.specs.declared.talk.Place.{Place}
use Rattle.saw_messages.specs.declared.transaction.TransactionHeader.{TransactionHeader}
use Rattle.saw_messages.specs.declared.talk.Action.{Action}
use Rattle.saw_messages.specs.declared.talk.Action.TheVariants as actions
use Rattle.saw_messages.specs.declared.talk.Entry.{Entry}
use Rattle.saw_context.specs.Conversation.{Overlay, address_in, seen_place, first_refused, places_of, set_all, delete_all, unless_refused, own_after, events_after}
use Rattle.saw_context.specs.declared.fault.AccessFault.{AccessFault}
use Rattle.saw_context.specs.declared.fault.AccessFault.TheVariants.{Unauthorized, OutOfMemory}
use Rattle.saw_context.specs.Views.{Layers, over}
use Rattle.saw_context.specs.declared.reads.Origin.{Origin}
use Rattle.saw_context.specs.declared.reads.Origin.TheVariants.{Own, Layer, Base}
use Rattle.saw_context.specs.declared.reads.Read.{Read}
use Rattle.saw_context.specs.declared.view.ViewEntry.{ViewEntry}

-- what is declared, the base, the view on top of it, what was changed, the events, and what was read
pub record Access : Type 0 where
  pub header : TransactionHeader
  pub base : StateMap
  pub layers : Layers
  pub own : Overlay
  pub events : List Event
  pub reads : List Read

-- what is read, but for the own changes
abbrev pub map_of_access : Access → StateMap
map_of_access access = over access.base access.layers

abbrev pub origin_by : Option (Option (List ℕ)) → Option ViewEntry → Origin
origin_by (Some change) layer = Own
origin_by None (Some entry) = Layer entry.index
origin_by None None = Base

-- where the bytes at an address come from
abbrev pub origin_at : Layers → Overlay → List ℕ → Origin
origin_at layers own address = origin_by (finite.get own address) (finite.get layers address)

-- the record of one read
abbrev pub read_at : Access → Place → Read
read_at access place = record {
  address = address_in place;
  from = origin_at access.layers access.own (address_in place);
  body = seen_place (map_of_access access) access.own place;
}

-- nothing done so far
abbrev pub no_access : TransactionHeader → StateMap → Layers → Access
no_access header base layers = record { header = header; base = base; layers = layers; own = finite.empty; events = []; reads = [] }

-- places were read: all are granted, and each read is recorded
pub record Gets (old : Access) (places : List Place) (bodies : List (List ℕ)) (new : Access) : Type 0 where
  pub granted : first_refused old.header.inputs places ≡ None
  pub answered : bodies ≡ map (seen_place (map_of_access old) old.own) places
  pub recorded : new ≡ record old { reads = old.reads ++ map (read_at old) places }

-- entries were set: all are granted
pub record Sets (old : Access) (entries : List Entry) (new : Access) : Type 0 where
  pub granted : first_refused old.header.outputs (places_of entries) ≡ None
  pub changed : new ≡ record old { own = set_all old.own entries }

-- places were deleted: all are granted
pub record Deletes (old : Access) (places : List Place) (new : Access) : Type 0 where
  pub granted : first_refused old.header.outputs places ≡ None
  pub changed : new ≡ record old { own = delete_all old.own places }

-- the fault of a request: the index of the first place that no text covers, where 32 bits count it; else want of memory
abbrev pub fault_at : Option ℕ → AccessFault
fault_at None = OutOfMemory
fault_at (Some index) = if nat_lt index 4294967296 then Unauthorized index else OutOfMemory

-- a request fails so
abbrev pub IsRefusedAt : List (List ℕ) → List Place → AccessFault → Type 0
IsRefusedAt texts places fault = fault ≡ fault_at (first_refused texts places)

-- what a request reads: each place of a request that is answered with entries
abbrev pub reads_by : Access → Action → List Read
reads_by access (actions.Get places) = unless_refused (first_refused access.header.inputs places) (λ index. []) (map (read_at access) places)
reads_by access (actions.Set entries) = []
reads_by access (actions.Delete places) = []
reads_by access (actions.AddEvent event) = []
reads_by access actions.Ok = []
reads_by access (actions.Invalid reason) = []

-- what a request leaves
abbrev pub access_after : Access → Action → Access
access_after access action = record access {
  own = own_after access.header access.own action;
  events = events_after access.events action;
  reads = access.reads ++ reads_by access action;
}
