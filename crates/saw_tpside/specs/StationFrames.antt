-- What a frame from the station says.
use Rattle.std.specs.Prelude.{ℕ, Bool, true, ◌&&◌, List, [], length, map, Option, Some, None, ◌==◌, nat_lt, if◌then◌else◌}
use Rattle.std.specs.Cmp.Lexicographic.{pointwise}
use Rattle.std.specs.Result.{result_ok}
use Rattle.std.specs.Str.{bytes_eq}
use Rattle.saw_wire.specs.Writing.{spelled}
use Rattle.saw_messages.specs.Transactions.{transaction_header, transaction_header_pieces}
use Rattle.saw_messages.specs.TxShapes.{TxShape}
use Rattle.saw_messages.specs.declared.talk.Action.{Action}
use Rattle.saw_messages.specs.declared.talk.Action.TheVariants as actions
use Rattle.saw_messages.specs.declared.talk.Reply.{Reply}
use Rattle.saw_messages.specs.declared.talk.Reply.TheVariants.{Entries, Done, Unauthorized}
use Rattle.saw_messages.specs.declared.transaction.TransactionHeader.{TransactionHeader}
use Rattle.saw_linkmsg.specs.Envelopes.{envelope}
use Rattle.saw_linkmsg.specs.RegisterMessages.{tp_register_response}
use Rattle.saw_linkmsg.specs.ProcessMessages.{tp_process_request}
use Rattle.saw_linkmsg.specs.StateMessages.{tp_state_get_response, tp_state_set_response, tp_state_delete_response}
use Rattle.saw_linkmsg.specs.EventMessages.{tp_event_add_response}
use Rattle.saw_linkmsg.specs.declared.envelope.Envelope.{Envelope}
use Rattle.saw_linkmsg.specs.declared.register.TpRegisterResponse.{TpRegisterResponse}
use Rattle.saw_linkmsg.specs.declared.process.TpProcessRequest.{TpProcessRequest}
use Rattle.saw_linkmsg.specs.declared.state.TpStateGetResponse.{TpStateGetResponse}
use Rattle.saw_linkmsg.specs.declared.state.TpStateSetResponse.{TpStateSetResponse}
use Rattle.saw_linkmsg.specs.declared.state.TpStateDeleteResponse.{TpStateDeleteResponse}
use Rattle.saw_linkmsg.specs.declared.events.TpEventAddResponse.{TpEventAddResponse}
use Rattle.saw_tpside.specs.ProcessorFrames.{text_at, entry_at}

abbrev pub content_in : ℕ → List ℕ → Option Envelope → Option (List ℕ)
content_in kind correlation None = None
content_in kind correlation (Some m) = if m.message_type == kind && bytes_eq m.correlation_id correlation then Some m.content else None

-- the content of a frame of at most so many bytes that has this message type and this correlation id
unfoldable pub content_of : ℕ → ℕ → List ℕ → List ℕ → Option (List ℕ)
content_of limit kind correlation frame = if nat_lt limit (length frame) then None else content_in kind correlation (result_ok (envelope frame))

-- ---- the answer to a registration

abbrev pub version_said : Option TpRegisterResponse → Option ℕ
version_said None = None
version_said (Some m) = if m.status == 1 then Some m.protocol_version else None

-- the version that the answer OK states, 0 where it states none
abbrev pub version_stated : Option (List ℕ) → Option ℕ
version_stated None = None
version_stated (Some content) = version_said (result_ok (tp_register_response content))

-- ---- a transaction to be run

abbrev pub tx_with : List ℕ → List ℕ → List ℕ → Option TransactionHeader → Option TxShape
tx_with id header_bytes payload None = None
tx_with id header_bytes payload (Some header) = Some (record { id = id; header = header; header_bytes = header_bytes; payload = payload })

-- on version 2 the header is read from the bytes that were received; on version 1 it stands in the message, and its bytes
-- are those that are written for it
abbrev pub tx_by : ℕ → TpProcessRequest → Option TxShape
tx_by version m =
    if version == 2 then tx_with m.signature m.header_bytes m.payload (result_ok (transaction_header m.header_bytes))
    else Some (record { id = m.signature; header = m.header; header_bytes = spelled (transaction_header_pieces m.header); payload = m.payload })

abbrev pub tx_in : ℕ → List ℕ → Option TpProcessRequest → Option TxShape
tx_in version context None = None
tx_in version context (Some m) = if bytes_eq m.context_id context then tx_by version m else None

-- the transaction of a request under this number in decimal
abbrev pub tx_of : ℕ → List ℕ → Option (List ℕ) → Option TxShape
tx_of version context None = None
tx_of version context (Some content) = tx_in version context (result_ok (tp_process_request content))

-- ---- the answer to a request

-- the answer that names again what was asked for is granted, the one that names nothing may refuse it
abbrev pub granted : ℕ → Bool → ℕ → Reply → Option Reply
granted status again named reply = if status == 1 then (if again then Some reply else None)
    else if status == 2 then (if named == 0 then Some (Unauthorized 0) else None) else None

abbrev pub reply_to_get : List (List ℕ) → Option TpStateGetResponse → Option Reply
reply_to_get texts None = None
reply_to_get texts (Some m) = granted m.status (pointwise bytes_eq (map (λ entry. entry.address) m.entries) texts) (length m.entries)
    (Entries (map (λ entry. entry.body) m.entries))

abbrev pub reply_to_set : List (List ℕ) → Option TpStateSetResponse → Option Reply
reply_to_set texts None = None
reply_to_set texts (Some m) = granted m.status (pointwise bytes_eq m.addresses texts) (length m.addresses) Done

abbrev pub reply_to_delete : List (List ℕ) → Option TpStateDeleteResponse → Option Reply
reply_to_delete texts None = None
reply_to_delete texts (Some m) = granted m.status (pointwise bytes_eq m.addresses texts) (length m.addresses) Done

abbrev pub reply_to_event : Option TpEventAddResponse → Option Reply
reply_to_event None = None
reply_to_event (Some m) = granted m.status true 0 Done

abbrev pub reply_in_get : List (List ℕ) → Option (List ℕ) → Option Reply
reply_in_get texts None = None
reply_in_get texts (Some content) = reply_to_get texts (result_ok (tp_state_get_response content))

abbrev pub reply_in_set : List (List ℕ) → Option (List ℕ) → Option Reply
reply_in_set texts None = None
reply_in_set texts (Some content) = reply_to_set texts (result_ok (tp_state_set_response content))

abbrev pub reply_in_delete : List (List ℕ) → Option (List ℕ) → Option Reply
reply_in_delete texts None = None
reply_in_delete texts (Some content) = reply_to_delete texts (result_ok (tp_state_delete_response content))

abbrev pub reply_in_event : Option (List ℕ) → Option Reply
reply_in_event None = None
reply_in_event (Some content) = reply_to_event (result_ok (tp_event_add_response content))

-- what a frame of at most so many bytes replies to an action that was sent under this number in decimal; none where it is
-- no legal answer to it
abbrev pub reply_of : ℕ → List ℕ → Action → List ℕ → Option Reply
reply_of limit number (actions.Get places) frame = reply_in_get (map text_at places) (content_of limit 8 number frame)
reply_of limit number (actions.Set entries) frame = reply_in_set (map (λ entry. text_at entry.place) entries) (content_of limit 10 number frame)
reply_of limit number (actions.Delete places) frame = reply_in_delete (map text_at places) (content_of limit 12 number frame)
reply_of limit number (actions.AddEvent event) frame = reply_in_event (content_of limit 16 number frame)
reply_of limit number actions.Ok frame = None
reply_of limit number (actions.Invalid reason) frame = None
