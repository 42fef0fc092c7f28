-- The frames that a processor sends.
use Rattle.std.specs.Prelude.{ℕ, Bool, List, [], map}
use Rattle.std.specs.Fmt.{decimal}
use Rattle.hex.specs.Hex.{encode_lower}
use Rattle.saw_wire.specs.Writing.{spelled}
use Rattle.saw_messages.specs.declared.talk.Action.{Action}
use Rattle.saw_messages.specs.declared.talk.Action.TheVariants as actions
use Rattle.saw_messages.specs.declared.talk.Entry.{Entry}
use Rattle.saw_messages.specs.declared.talk.Place.{Place}
use Rattle.saw_messages.specs.declared.talk.Place.TheVariants.{At, Bad}
use Rattle.saw_linkmsg.specs.RegisterMessages.{tp_register_request_pieces}
use Rattle.saw_linkmsg.specs.ProcessMessages.{tp_process_response_pieces}
use Rattle.saw_linkmsg.specs.StateMessages.{tp_state_get_request_pieces, tp_state_set_request_pieces, tp_state_delete_request_pieces}
use Rattle.saw_linkmsg.specs.EventMessages.{tp_event_add_request_pieces}
use Rattle.saw_linkmsg.specs.declared.register.TpRegisterRequest.{TpRegisterRequest}
use Rattle.saw_linkmsg.specs.declared.state.TpStateEntry.{TpStateEntry}
use Rattle.saw_link.specs.SentFrames.{framed}
use Rattle.saw_station.specs.declared.offer.Offer.{Offer}

-- the text of a place; that of a bad one is no address
abbrev pub text_at : Place → List ℕ
text_at (At address) = encode_lower address
text_at Bad = []

abbrev pub entry_at : Entry → TpStateEntry
entry_at entry = record { address = text_at entry.place; body = entry.body }

-- the registration of an offer, which states a version of the link, and whether another registration follows
abbrev pub registering : ℕ → Bool → Offer → TpRegisterRequest
registering protocol more offer =
    record { family = offer.family; version = offer.version; namespaces = []; protocol_version = protocol; more = more }

-- its frame, under its number in decimal
abbrev pub registration_frame : ℕ → ℕ → Bool → Offer → List ℕ
registration_frame number protocol more offer = framed 1 (decimal number) (spelled (tp_register_request_pieces (registering protocol more offer)))

-- the end of the transaction with this number in decimal, without a message
abbrev pub end_frame : List ℕ → ℕ → List ℕ
end_frame context status = framed 6 context (spelled (tp_process_response_pieces (record { status = status; message = [] })))

-- what a transaction asks for under this number in decimal, or how it ends: any refusal is that of an invalid transaction
abbrev pub action_frame : List ℕ → List ℕ → Action → List ℕ
action_frame context number (actions.Get places) =
    framed 7 number (spelled (tp_state_get_request_pieces (record { context_id = context; addresses = map text_at places })))
action_frame context number (actions.Set entries) =
    framed 9 number (spelled (tp_state_set_request_pieces (record { context_id = context; entries = map entry_at entries })))
action_frame context number (actions.Delete places) =
    framed 11 number (spelled (tp_state_delete_request_pieces (record { context_id = context; addresses = map text_at places })))
action_frame context number (actions.AddEvent event) =
    framed 15 number (spelled (tp_event_add_request_pieces (record { context_id = context; event = event })))
action_frame context number actions.Ok = end_frame context 1
action_frame context number (actions.Invalid reason) = end_frame context 2
