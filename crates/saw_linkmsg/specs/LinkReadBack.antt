-- What is written for a message of the link is read back as that message.
use Rattle.std.specs.Prelude.{◌≡◌, ◌<◌, ◌^◌, Ok}
use Rattle.std.specs.List.{AllByRecursion}
use Rattle.saw_wire.specs.Writing.{spelled, AreWritable}
use Rattle.saw_messages.specs.ReadBack.{IsText, IsTransactionHeader, IsEvent}
use Rattle.saw_linkmsg.specs.declared.envelope.Envelope.{Envelope}
use Rattle.saw_linkmsg.specs.declared.register.TpRegisterRequest.{TpRegisterRequest}
use Rattle.saw_linkmsg.specs.declared.register.TpRegisterResponse.{TpRegisterResponse}
use Rattle.saw_linkmsg.specs.declared.process.TpProcessRequest.{TpProcessRequest}
use Rattle.saw_linkmsg.specs.declared.process.TpProcessResponse.{TpProcessResponse}
use Rattle.saw_linkmsg.specs.declared.state.TpStateEntry.{TpStateEntry}
use Rattle.saw_linkmsg.specs.declared.state.TpStateGetRequest.{TpStateGetRequest}
use Rattle.saw_linkmsg.specs.declared.state.TpStateGetResponse.{TpStateGetResponse}
use Rattle.saw_linkmsg.specs.declared.state.TpStateSetRequest.{TpStateSetRequest}
use Rattle.saw_linkmsg.specs.declared.state.TpStateSetResponse.{TpStateSetResponse}
use Rattle.saw_linkmsg.specs.declared.state.TpStateDeleteRequest.{TpStateDeleteRequest}
use Rattle.saw_linkmsg.specs.declared.state.TpStateDeleteResponse.{TpStateDeleteResponse}
use Rattle.saw_linkmsg.specs.declared.events.TpEventAddRequest.{TpEventAddRequest}
use Rattle.saw_linkmsg.specs.declared.events.TpEventAddResponse.{TpEventAddResponse}
use Rattle.saw_linkmsg.specs.Envelopes.{envelope, envelope_pieces}
use Rattle.saw_linkmsg.specs.RegisterMessages.{tp_register_request, tp_register_request_pieces, tp_register_response, tp_register_response_pieces}
use Rattle.saw_linkmsg.specs.ProcessMessages.{tp_process_request, tp_process_request_pieces, tp_process_response, tp_process_response_pieces}
use Rattle.saw_linkmsg.specs.StateMessages.{tp_state_entry, tp_state_entry_pieces, tp_state_get_request, tp_state_get_request_pieces}
use Rattle.saw_linkmsg.specs.StateMessages.{tp_state_get_response, tp_state_get_response_pieces, tp_state_set_request, tp_state_set_request_pieces}
use Rattle.saw_linkmsg.specs.StateMessages.{tp_state_set_response, tp_state_set_response_pieces}
use Rattle.saw_linkmsg.specs.StateMessages.{tp_state_delete_request, tp_state_delete_request_pieces}
use Rattle.saw_linkmsg.specs.StateMessages.{tp_state_delete_response, tp_state_delete_response_pieces}
use Rattle.saw_linkmsg.specs.EventMessages.{tp_event_add_request, tp_event_add_request_pieces, tp_event_add_response, tp_event_add_response_pieces}

-- ---- what each value of a message type is: its texts are UTF-8, and its numbers and lengths fit their types

pub record IsEnvelope (m : Envelope) : Type 0 where
  pub message_type : m.message_type < 2 ^ 32
  pub correlation_id : IsText m.correlation_id
  pub fits : AreWritable (envelope_pieces m)

pub record IsTpRegisterRequest (m : TpRegisterRequest) : Type 0 where
  pub family : IsText m.family
  pub version : IsText m.version
  pub namespaces : AllByRecursion IsText m.namespaces
  pub protocol_version : m.protocol_version < 2 ^ 32
  pub fits : AreWritable (tp_register_request_pieces m)

pub record IsTpRegisterResponse (m : TpRegisterResponse) : Type 0 where
  pub status : m.status < 2 ^ 32
  pub protocol_version : m.protocol_version < 2 ^ 32
  pub fits : AreWritable (tp_register_response_pieces m)

pub record IsTpProcessRequest (m : TpProcessRequest) : Type 0 where
  pub header : IsTransactionHeader m.header
  pub signature : IsText m.signature
  pub context_id : IsText m.context_id
  pub fits : AreWritable (tp_process_request_pieces m)

pub record IsTpProcessResponse (m : TpProcessResponse) : Type 0 where
  pub status : m.status < 2 ^ 32
  pub message : IsText m.message
  pub fits : AreWritable (tp_process_response_pieces m)

pub record IsTpStateEntry (m : TpStateEntry) : Type 0 where
  pub address : IsText m.address
  pub fits : AreWritable (tp_state_entry_pieces m)

pub record IsTpStateGetRequest (m : TpStateGetRequest) : Type 0 where
  pub context_id : IsText m.context_id
  pub addresses : AllByRecursion IsText m.addresses
  pub fits : AreWritable (tp_state_get_request_pieces m)

pub record IsTpStateGetResponse (m : TpStateGetResponse) : Type 0 where
  pub entries : AllByRecursion IsTpStateEntry m.entries
  pub status : m.status < 2 ^ 32
  pub fits : AreWritable (tp_state_get_response_pieces m)

pub record IsTpStateSetRequest (m : TpStateSetRequest) : Type 0 where
  pub context_id : IsText m.context_id
  pub entries : AllByRecursion IsTpStateEntry m.entries
  pub fits : AreWritable (tp_state_set_request_pieces m)

pub record IsTpStateSetResponse (m : TpStateSetResponse) : Type 0 where
  pub addresses : AllByRecursion IsText m.addresses
  pub status : m.status < 2 ^ 32
  pub fits : AreWritable (tp_state_set_response_pieces m)

pub record IsTpStateDeleteRequest (m : TpStateDeleteRequest) : Type 0 where
  pub context_id : IsText m.context_id
  pub addresses : AllByRecursion IsText m.addresses
  pub fits : AreWritable (tp_state_delete_request_pieces m)

pub record IsTpStateDeleteResponse (m : TpStateDeleteResponse) : Type 0 where
  pub addresses : AllByRecursion IsText m.addresses
  pub status : m.status < 2 ^ 32
  pub fits : AreWritable (tp_state_delete_response_pieces m)

pub record IsTpEventAddRequest (m : TpEventAddRequest) : Type 0 where
  pub context_id : IsText m.context_id
  pub event : IsEvent m.event
  pub fits : AreWritable (tp_event_add_request_pieces m)

pub record IsTpEventAddResponse (m : TpEventAddResponse) : Type 0 where
  pub status : m.status < 2 ^ 32
  pub fits : AreWritable (tp_event_add_response_pieces m)

-- ---- the laws

abbrev pub EnvelopeIsReadBack : Type 0
EnvelopeIsReadBack = (m : Envelope) → IsEnvelope m → envelope (spelled (envelope_pieces m)) ≡ Ok m

abbrev pub TpRegisterRequestIsReadBack : Type 0
TpRegisterRequestIsReadBack = (m : TpRegisterRequest) → IsTpRegisterRequest m → tp_register_request (spelled (tp_register_request_pieces m)) ≡ Ok m

abbrev pub TpRegisterResponseIsReadBack : Type 0
TpRegisterResponseIsReadBack = (m : TpRegisterResponse) → IsTpRegisterResponse m → tp_register_response (spelled (tp_register_response_pieces m)) ≡ Ok m

abbrev pub TpProcessRequestIsReadBack : Type 0
TpProcessRequestIsReadBack = (m : TpProcessRequest) → IsTpProcessRequest m → tp_process_request (spelled (tp_process_request_pieces m)) ≡ Ok m

abbrev pub TpProcessResponseIsReadBack : Type 0
TpProcessResponseIsReadBack = (m : TpProcessResponse) → IsTpProcessResponse m → tp_process_response (spelled (tp_process_response_pieces m)) ≡ Ok m

abbrev pub TpStateEntryIsReadBack : Type 0
TpStateEntryIsReadBack = (m : TpStateEntry) → IsTpStateEntry m → tp_state_entry (spelled (tp_state_entry_pieces m)) ≡ Ok m

abbrev pub TpStateGetRequestIsReadBack : Type 0
TpStateGetRequestIsReadBack = (m : TpStateGetRequest) → IsTpStateGetRequest m → tp_state_get_request (spelled (tp_state_get_request_pieces m)) ≡ Ok m

abbrev pub TpStateGetResponseIsReadBack : Type 0
TpStateGetResponseIsReadBack = (m : TpStateGetResponse) → IsTpStateGetResponse m → tp_state_get_response (spelled (tp_state_get_response_pieces m)) ≡ Ok m

abbrev pub TpStateSetRequestIsReadBack : Type 0
TpStateSetRequestIsReadBack = (m : TpStateSetRequest) → IsTpStateSetRequest m → tp_state_set_request (spelled (tp_state_set_request_pieces m)) ≡ Ok m

abbrev pub TpStateSetResponseIsReadBack : Type 0
TpStateSetResponseIsReadBack = (m : TpStateSetResponse) → IsTpStateSetResponse m → tp_state_set_response (spelled (tp_state_set_response_pieces m)) ≡ Ok m

abbrev pub TpStateDeleteRequestIsReadBack : Type 0
TpStateDeleteRequestIsReadBack = (m : TpStateDeleteRequest) → IsTpStateDeleteRequest m
    → tp_state_delete_request (spelled (tp_state_delete_request_pieces m)) ≡ Ok m

abbrev pub TpStateDeleteResponseIsReadBack : Type 0
TpStateDeleteResponseIsReadBack = (m : TpStateDeleteResponse) → IsTpStateDeleteResponse m
    → tp_state_delete_response (spelled (tp_state_delete_response_pieces m)) ≡ Ok m

abbrev pub TpEventAddRequestIsReadBack : Type 0
TpEventAddRequestIsReadBack = (m : TpEventAddRequest) → IsTpEventAddRequest m → tp_event_add_request (spelled (tp_event_add_request_pieces m)) ≡ Ok m

abbrev pub TpEventAddResponseIsReadBack : Type 0
TpEventAddResponseIsReadBack = (m : TpEventAddResponse) → IsTpEventAddResponse m → tp_event_add_response (spelled (tp_event_add_response_pieces m)) ≡ Ok m
