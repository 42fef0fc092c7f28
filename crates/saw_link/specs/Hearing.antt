-- What a frame from the peer says, while a transaction is open.
use Rattle.std.specs.Prelude.{ℕ, Bool, List, [], length, map, Option, Some, None, Result, Ok, Err, ◌==◌, nat_lt, if◌then◌else◌}
use Rattle.std.specs.Result.{result_ok}
use Rattle.hex.specs.Hex.{decode_of}
use Rattle.hex.specs.declared.error.FromHexError.{FromHexError}
use Rattle.std.specs.Str.{bytes_eq}
use Rattle.saw_address.specs.Texts.{is_address_text}
use Rattle.saw_messages.specs.declared.talk.Action.{Action}
use Rattle.saw_messages.specs.declared.talk.Action.TheVariants as actions
use Rattle.saw_messages.specs.declared.talk.Entry.{Entry}
use Rattle.saw_messages.specs.declared.talk.Place.{Place}
use Rattle.saw_messages.specs.declared.talk.Place.TheVariants.{At, Bad}
use Rattle.saw_linkmsg.specs.Envelopes.{envelope}
use Rattle.saw_linkmsg.specs.RegisterMessages.{tp_register_request}
use Rattle.saw_linkmsg.specs.ProcessMessages.{tp_process_response}
use Rattle.saw_linkmsg.specs.StateMessages.{tp_state_get_request, tp_state_set_request, tp_state_delete_request}
use Rattle.saw_linkmsg.specs.EventMessages.{tp_event_add_request}
use Rattle.saw_linkmsg.specs.declared.envelope.Envelope.{Envelope}
use Rattle.saw_linkmsg.specs.declared.register.TpRegisterRequest.{TpRegisterRequest}
use Rattle.saw_linkmsg.specs.declared.process.TpProcessResponse.{TpProcessResponse}
use Rattle.saw_linkmsg.specs.declared.state.TpStateEntry.{TpStateEntry}
use Rattle.saw_linkmsg.specs.declared.state.TpStateGetRequest.{TpStateGetRequest}
use Rattle.saw_linkmsg.specs.declared.state.TpStateSetRequest.{TpStateSetRequest}
use Rattle.saw_linkmsg.specs.declared.state.TpStateDeleteRequest.{TpStateDeleteRequest}
use Rattle.saw_linkmsg.specs.declared.events.TpEventAddRequest.{TpEventAddRequest}
use Rattle.saw_link.specs.declared.heard.Asked.{Asked}
use Rattle.saw_link.specs.declared.heard.Finish.TheVariants.{Accepted, Refused, Broken}
use Rattle.saw_link.specs.declared.heard.Heard.{Heard}
use Rattle.saw_link.specs.declared.heard.Heard.TheVariants.{Asks, Ends, Breach}
use Rattle.saw_link.specs.declared.heard.Kind.TheVariants.{Get, Set, Delete, AddEvent}
use Rattle.saw_link.specs.declared.heard.Registration.{Registration}

abbrev pub bytes_by : Result (List ℕ) FromHexError → List ℕ
bytes_by (Ok bytes) = bytes
bytes_by (Err e) = []

-- the place of an address text; any other text is a bad one
unfoldable pub place_of : List ℕ → Place
place_of text = if is_address_text text then At (bytes_by (decode_of text)) else Bad

abbrev pub entry_of : TpStateEntry → Entry
entry_of entry = record { place = place_of entry.address; body = entry.body }

abbrev pub finish : Bool → Option TpProcessResponse → Heard
finish same None = Breach
finish same (Some m) = if same then
    (if m.status == 1 then Ends Accepted else if m.status == 2 then Ends Refused else if m.status == 3 then Ends Broken else Breach) else Breach

abbrev pub asks : Bool → Asked → Action → Heard
asks same asked action = if same then Asks asked action else Breach

module _ (context : List ℕ) (correlation : List ℕ) where
  abbrev pub heard_get : Option TpStateGetRequest → Heard
  heard_get None = Breach
  heard_get (Some m) = asks (bytes_eq m.context_id context) (record { kind = Get; correlation = correlation; texts = m.addresses })
      (actions.Get (map place_of m.addresses))

  abbrev pub heard_set : Option TpStateSetRequest → Heard
  heard_set None = Breach
  heard_set (Some m) = asks (bytes_eq m.context_id context)
      (record { kind = Set; correlation = correlation; texts = map (λ entry. entry.address) m.entries }) (actions.Set (map entry_of m.entries))

  abbrev pub heard_delete : Option TpStateDeleteRequest → Heard
  heard_delete None = Breach
  heard_delete (Some m) = asks (bytes_eq m.context_id context) (record { kind = Delete; correlation = correlation; texts = m.addresses })
      (actions.Delete (map place_of m.addresses))

  abbrev pub heard_event : Option TpEventAddRequest → Heard
  heard_event None = Breach
  heard_event (Some m) = asks (bytes_eq m.context_id context) (record { kind = AddEvent; correlation = correlation; texts = [] }) (actions.AddEvent m.event)

abbrev pub heard_message : List ℕ → Option Envelope → Heard
heard_message context None = Breach
heard_message context (Some m) =
    if m.message_type == 6 then finish (bytes_eq m.correlation_id context) (result_ok (tp_process_response m.content))
    else if m.message_type == 7 then heard_get context m.correlation_id (result_ok (tp_state_get_request m.content))
    else if m.message_type == 9 then heard_set context m.correlation_id (result_ok (tp_state_set_request m.content))
    else if m.message_type == 11 then heard_delete context m.correlation_id (result_ok (tp_state_delete_request m.content))
    else if m.message_type == 15 then heard_event context m.correlation_id (result_ok (tp_event_add_request m.content))
    else Breach

-- a frame of at most so many bytes, for the transaction with this number in decimal
unfoldable pub heard : ℕ → List ℕ → List ℕ → Heard
heard limit context frame = if nat_lt limit (length frame) then Breach else heard_message context (result_ok (envelope frame))

abbrev pub registration_by : List ℕ → Option TpRegisterRequest → Option Registration
registration_by correlation None = None
registration_by correlation (Some request) = Some (record { correlation = correlation; request = request })

abbrev pub registration_in : Option Envelope → Option Registration
registration_in None = None
registration_in (Some m) = if m.message_type == 1 then registration_by m.correlation_id (result_ok (tp_register_request m.content)) else None

-- the registration that a frame of at most so many bytes says
unfoldable pub registration : ℕ → List ℕ → Option Registration
registration limit frame = if nat_lt limit (length frame) then None else registration_in (result_ok (envelope frame))
