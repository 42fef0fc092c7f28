-- The frames that a station sends.
use Rattle.std.specs.Prelude.{ℕ, List, [], ◌∷◌, ◌++◌, ◌==◌, if◌then◌else◌}
use Rattle.saw_wire.specs.Writing.{spelled, bytes_pieces}
use Rattle.saw_messages.specs.declared.talk.Reply.{Reply}
use Rattle.saw_messages.specs.declared.talk.Reply.TheVariants.{Entries, Done, Unauthorized}
use Rattle.saw_messages.specs.declared.transaction.Transaction.{Transaction}
use Rattle.saw_linkmsg.specs.Envelopes.{envelope_pieces}
use Rattle.saw_linkmsg.specs.RegisterMessages.{tp_register_response_pieces}
use Rattle.saw_linkmsg.specs.StateMessages.{tp_state_get_response_pieces, tp_state_set_response_pieces, tp_state_delete_response_pieces}
use Rattle.saw_linkmsg.specs.EventMessages.{tp_event_add_response_pieces}
use Rattle.saw_linkmsg.specs.declared.state.TpStateEntry.{TpStateEntry}
use Rattle.saw_link.specs.declared.heard.Asked.{Asked}
use Rattle.saw_link.specs.declared.heard.Kind.{Kind}
use Rattle.saw_link.specs.declared.heard.Kind.TheVariants.{Get, Set, Delete, AddEvent}

-- how long the content of a frame may be; version 1 until the first registration was read
abbrev pub limit_of : ℕ → ℕ
limit_of version = if version == 2 then 8388608 else 1048576

-- a message of a type under a correlation id
abbrev pub framed : ℕ → List ℕ → List ℕ → List ℕ
framed message_type correlation content = spelled (envelope_pieces (record { message_type = message_type; correlation_id = correlation; content = content }))

-- the version that an answer states: none on a link of version 1
abbrev pub stated : ℕ → ℕ
stated version = if version == 2 then 2 else 0

abbrev pub welcome : ℕ → List ℕ → List ℕ
welcome version correlation = framed 2 correlation (spelled (tp_register_response_pieces (record { status = 1; protocol_version = stated version })))

-- a transaction under its number in decimal: the header as it was received stands in field 1, on version 2 in field 5
abbrev pub process_content : ℕ → List ℕ → Transaction → List ℕ
process_content version context tx = spelled (bytes_pieces 1 (if version == 2 then [] else tx.header) ++ bytes_pieces 2 tx.payload
    ++ bytes_pieces 3 tx.header_signature ++ bytes_pieces 4 context ++ bytes_pieces 5 (if version == 2 then tx.header else []))

abbrev pub process_request : ℕ → List ℕ → Transaction → List ℕ
process_request version context tx = framed 5 context (process_content version context tx)

-- the entries of an answer: each address text with its value
abbrev pub entries_of : List (List ℕ) → List (List ℕ) → List TpStateEntry
entries_of [] bodies = []
entries_of (text ∷ texts) [] = []
entries_of (text ∷ texts) (body ∷ bodies) = record { address = text; body = body } ∷ entries_of texts bodies

abbrev pub get_answer : List ℕ → List TpStateEntry → ℕ → List ℕ
get_answer correlation entries status = framed 8 correlation (spelled (tp_state_get_response_pieces (record { entries = entries; status = status })))

abbrev pub set_answer : List ℕ → List (List ℕ) → ℕ → List ℕ
set_answer correlation texts status = framed 10 correlation (spelled (tp_state_set_response_pieces (record { addresses = texts; status = status })))

abbrev pub delete_answer : List ℕ → List (List ℕ) → ℕ → List ℕ
delete_answer correlation texts status = framed 12 correlation (spelled (tp_state_delete_response_pieces (record { addresses = texts; status = status })))

abbrev pub event_answer : List ℕ → ℕ → List ℕ
event_answer correlation status = framed 16 correlation (spelled (tp_event_add_response_pieces (record { status = status })))

abbrev pub answer_by : Kind → List ℕ → List (List ℕ) → Reply → List ℕ
answer_by Get correlation texts (Entries bodies) = get_answer correlation (entries_of texts bodies) 1
answer_by Get correlation texts Done = get_answer correlation [] 2
answer_by Get correlation texts (Unauthorized index) = get_answer correlation [] 2
answer_by Set correlation texts (Entries bodies) = set_answer correlation [] 2
answer_by Set correlation texts Done = set_answer correlation texts 1
answer_by Set correlation texts (Unauthorized index) = set_answer correlation [] 2
answer_by Delete correlation texts (Entries bodies) = delete_answer correlation [] 2
answer_by Delete correlation texts Done = delete_answer correlation texts 1
answer_by Delete correlation texts (Unauthorized index) = delete_answer correlation [] 2
answer_by AddEvent correlation texts (Entries bodies) = event_answer correlation 2
answer_by AddEvent correlation texts Done = event_answer correlation 1
answer_by AddEvent correlation texts (Unauthorized index) = event_answer correlation 2

-- the answer to a request; what is not granted is refused
abbrev pub answer : Asked → Reply → List ℕ
answer asked reply = answer_by asked.kind asked.correlation asked.texts reply
