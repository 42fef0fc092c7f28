-- What a processor takes from the frames of its station.
use Rattle.std.proofs.Common.{◌≡◌, ◌≤◌, ◌<◌, ◌+◌, ◌^◌, ◌==◌, ◌&&◌, ℕ, zero, suc, Bool, true, false, not, List, [], ◌∷◌, ◌++◌, length, map, Option, Some, None, Result, Ok, Err, refl, sym, ap, subst, ◌∙◌, arith}
use Rattle.std.specs.Prelude.{nat_lt, if◌then◌else◌}
use Rattle.std.specs.Cmp.Lexicographic.{pointwise}
use Rattle.std.specs.Result.{result_ok}
use Rattle.std.specs.Str.{bytes_eq}
use Rattle.std.proofs.lemmas.Bool.Decides.{nat_tests}
use Rattle.saw_context.specs.Outcome.{is_request}
use Rattle.saw_wire.specs.Writing.{spelled}
use Rattle.saw_wire.specs.declared.fault.MessageFault.{MessageFault}
use Rattle.saw_messages.specs.Transactions.{transaction_header, transaction_header_pieces}
use Rattle.saw_messages.specs.TxShapes.{TxShape, header_by}
use Rattle.saw_messages.specs.declared.transaction.Transaction.{Transaction}
use Rattle.saw_messages.specs.declared.transaction.TransactionHeader.{TransactionHeader}
use Rattle.saw_messages.specs.declared.talk.Action.{Action}
use Rattle.saw_messages.specs.declared.talk.Action.TheVariants as actions
use Rattle.saw_messages.specs.declared.receipt.Event.{Event}
use Rattle.saw_messages.specs.declared.talk.Entry.{Entry}
use Rattle.saw_messages.specs.declared.talk.Place.{Place}
use Rattle.saw_messages.specs.declared.talk.Reply.{Reply}
use Rattle.saw_messages.specs.declared.talk.Reply.TheVariants.{Entries, Done, Unauthorized}
use Rattle.saw_linkmsg.specs.EventMessages.{tp_event_add_response, tp_event_add_response_pieces}
use Rattle.saw_linkmsg.specs.ProcessMessages.{tp_process_request}
use Rattle.saw_linkmsg.specs.RegisterMessages.{tp_register_response, tp_register_response_pieces}
use Rattle.saw_linkmsg.specs.StateMessages.{tp_state_get_response, tp_state_get_response_pieces, tp_state_set_response, tp_state_set_response_pieces}
use Rattle.saw_linkmsg.specs.StateMessages.{tp_state_delete_response, tp_state_delete_response_pieces}
use Rattle.saw_linkmsg.specs.declared.process.TpProcessRequest.{TpProcessRequest}
use Rattle.saw_linkmsg.specs.declared.register.TpRegisterResponse.{TpRegisterResponse}
use Rattle.saw_linkmsg.specs.declared.state.TpStateEntry.{TpStateEntry}
use Rattle.saw_linkmsg.specs.declared.state.TpStateGetResponse.{TpStateGetResponse}
use Rattle.saw_linkmsg.specs.declared.state.TpStateSetResponse.{TpStateSetResponse}
use Rattle.saw_linkmsg.specs.declared.state.TpStateDeleteResponse.{TpStateDeleteResponse}
use Rattle.saw_linkmsg.specs.declared.events.TpEventAddResponse.{TpEventAddResponse}
use Rattle.saw_link.specs.Alike.{with_no_index}
use Rattle.saw_link.specs.SentFrames.{answer, answer_by, entries_of, framed, process_content, process_request, welcome, stated}
use Rattle.saw_link.specs.declared.heard.Asked.{Asked}
use Rattle.saw_link.specs.declared.heard.Kind.TheVariants.{Get, Set, Delete, AddEvent}
use Rattle.saw_station.specs.TalkSteps.{fits}
use Rattle.saw_tpside.proofs.StationBack.{IsSmall, ReadsProcess, content_read, content_small, delete_response_back, event_response_back, get_response_back, process_back, register_response_back, set_response_back}
use Rattle.saw_tpside.specs.ProcessorConversation.{is_refused_event}
use Rattle.saw_tpside.specs.ProcessorFrames.{text_at}
use Rattle.saw_tpside.specs.StationFrames.{content_of, granted, reply_in_delete, reply_in_event, reply_in_get, reply_in_set, reply_of, reply_to_delete, reply_to_event, reply_to_get, reply_to_set, tx_by, tx_in, tx_of, tx_with, version_said, version_stated}

some_same : {A : Type 0} (x y : A) → Some x ≡ Some y → x ≡ y
some_same x y e = cc

if_some : {A : Type 0} (test : Bool) (x y : A) → (if test then Some x else None) ≡ Some y → x ≡ y
if_some true x y is = some_same x y is
if_some false x y is = absurd cc

-- ---- a transaction

-- what was read, and the transaction of it
record ReadsTx (version : ℕ) (read : Result TpProcessRequest MessageFault) (tx : TxShape) : Type 0 where
  m : TpProcessRequest
  is : read ≡ Ok m
  by : tx_by version m ≡ Some tx

if_tx : (test : Bool) (found : Option TxShape) (tx : TxShape) → (if test then found else None) ≡ Some tx → found ≡ Some tx
if_tx true found tx is = is
if_tx false found tx is = absurd cc

reads_tx : (version : ℕ) (context : List ℕ) (read : Result TpProcessRequest MessageFault) (tx : TxShape) → tx_in version context (result_ok read) ≡ Some tx
    → ReadsTx version read tx
reads_tx version context (Err e) tx is = absurd cc
reads_tx version context (Ok m) tx is = record { m = m; is = refl; by = if_tx (bytes_eq m.context_id context) (tx_by version m) tx is }

-- the header and the payload of a transaction
pub record HasParts (header payload : List ℕ) (tx : TxShape) : Type 0 where
  pub header_is : header_by (transaction_header header) ≡ tx.header
  pub payload_is : payload ≡ tx.payload

with_parts : (id header_bytes payload : List ℕ) (read : Result TransactionHeader MessageFault) (tx : TxShape)
    → tx_with id header_bytes payload (result_ok read) ≡ Some tx → (header_by read ≡ tx.header) × (payload ≡ tx.payload)
with_parts id header_bytes payload (Err e) tx is = absurd cc
with_parts id header_bytes payload (Ok header) tx is =
    let same = some_same (record { id = id; header = header; header_bytes = header_bytes; payload = payload }) tx is in
    (ap (λ (tx : TxShape). tx.header) same, ap (λ (tx : TxShape). tx.payload) same)

by_parts : (second : Bool) (header payload : List ℕ) (m : TpProcessRequest) (tx : TxShape)
    → ReadsProcess (if second then [] else header) payload (if second then header else []) m
    → (if second then tx_with m.signature m.header_bytes m.payload (result_ok (transaction_header m.header_bytes))
    else Some (record { id = m.signature; header = m.header; header_bytes = spelled (transaction_header_pieces m.header); payload = m.payload }))
    ≡ Some tx
    → HasParts header payload tx
by_parts true header payload m tx reads is =
    let parts = with_parts m.signature m.header_bytes m.payload (transaction_header m.header_bytes) tx is in
    record {
      header_is = ap (λ bytes. header_by (transaction_header bytes)) (sym reads.header_bytes) ∙ parts.0;
      payload_is = sym reads.payload_is ∙ parts.1;
    }
by_parts false header payload m tx reads is =
    let same = some_same (record { id = m.signature; header = m.header; header_bytes = spelled (transaction_header_pieces m.header); payload = m.payload }) tx is in
    record {
      header_is = reads.header ∙ ap (λ (tx : TxShape). tx.header) same;
      payload_is = sym reads.payload_is ∙ ap (λ (tx : TxShape). tx.payload) same;
    }

tx_among : (version limit : ℕ) (context : List ℕ) (sent_context : List ℕ) (tx : Transaction) (made : TxShape) (found : Option (List ℕ))
    → IsSmall (process_request version sent_context tx) → ((content : List ℕ) → found ≡ Some content → content ≡ process_content version sent_context tx)
    → tx_of version context found ≡ Some made → HasParts tx.header tx.payload made
tx_among version limit context sent_context tx made None small same is = absurd cc
tx_among version limit context sent_context tx made (Some content) small same is =
    let content_is = same content refl in
    let reads = reads_tx version context (tp_process_request content) made is in
    let read : tp_process_request (process_content version sent_context tx) ≡ Ok reads.m = ap tp_process_request (sym content_is) ∙ reads.is in
    by_parts (version == 2) tx.header tx.payload reads.m made
    (process_back version sent_context tx reads.m (content_small 5 sent_context (process_content version sent_context tx) (omega arith) small) read) reads.by

-- the transaction that a processor takes has the header and the payload of the one that was sent
pub tx_taken : (version limit : ℕ) (context sent_context : List ℕ) (tx : Transaction) (made : TxShape) → IsSmall (process_request version sent_context tx)
    → tx_of version context (content_of limit 5 context (process_request version sent_context tx)) ≡ Some made → HasParts tx.header tx.payload made
tx_taken version limit context sent_context tx made small is =
    tx_among version limit context sent_context tx made (content_of limit 5 context (process_request version sent_context tx)) small
    (λ content found. content_read limit 5 context 5 sent_context (process_content version sent_context tx) content (omega arith) small found) is

-- ---- the answer to a registration

stated_small : (version : ℕ) → stated version < 2 ^ 32
stated_small version = elim (version == 2) as (λ two. (if two then 2 else 0) < 2 ^ 32) [ true ↦ omega arith | false ↦ omega arith ]

version_among : (version : ℕ) (correlation : List ℕ) (said : ℕ) (found : Option (List ℕ)) → IsSmall (welcome version correlation)
    → ((content : List ℕ) → found ≡ Some content → content ≡ spelled (tp_register_response_pieces (record { status = 1; protocol_version = stated version })))
    → version_stated found ≡ Some said → said ≡ stated version
version_among version correlation said None small same is = absurd cc
version_among version correlation said (Some content) small same is =
    let read : tp_register_response content ≡ Ok (record { status = 1; protocol_version = stated version }) = ap tp_register_response (same content refl)
    ∙ register_response_back 1 (stated version) (omega arith) (stated_small version)
    (content_small 2 correlation (spelled (tp_register_response_pieces (record { status = 1; protocol_version = stated version }))) (omega arith) small) in
    sym (some_same _ _ (ap (λ r. version_said (result_ok r)) (sym read) ∙ is))

-- the version that a processor reads is the one that the station states
pub version_taken : (version limit : ℕ) (correlation sent_correlation : List ℕ) (said : ℕ) → IsSmall (welcome version sent_correlation)
    → version_stated (content_of limit 2 correlation (welcome version sent_correlation)) ≡ Some said → said ≡ stated version
version_taken version limit correlation sent_correlation said small is =
    version_among version sent_correlation said (content_of limit 2 correlation (welcome version sent_correlation)) small
    (λ content found. content_read limit 2 correlation 2 sent_correlation
    (spelled (tp_register_response_pieces (record { status = 1; protocol_version = stated version }))) content (omega arith) small found) is

-- ---- replies

-- what waits for an answer
abbrev pub asked_by : List ℕ → Action → Option Asked
asked_by number (actions.Get places) = Some (record { kind = Get; correlation = number; texts = map text_at places })
asked_by number (actions.Set entries) = Some (record { kind = Set; correlation = number; texts = map (λ entry. text_at entry.place) entries })
asked_by number (actions.Delete places) = Some (record { kind = Delete; correlation = number; texts = map text_at places })
asked_by number (actions.AddEvent event) = Some (record { kind = AddEvent; correlation = number; texts = [] })
asked_by number actions.Ok = None
asked_by number (actions.Invalid reason) = None

nat_same : (a b : ℕ) → (a == b) ≡ true → a ≡ b
nat_same a b is = grind (arith, nat_tests)

-- a reply that was read is the one that was given, but for the index, and no event was refused
pub record IsReply (action : Action) (given read : Reply) : Type 0 where
  pub alike : with_no_index given ≡ with_no_index read
  pub granted_it : is_refused_event action read ≡ false

map_length : {A B : Type 0} (f : A → B) (xs : List A) → length (map f xs) ≡ length xs
map_length f [] = refl
map_length f (x ∷ xs) = ap suc (map_length f xs)

bodies_back : (texts bodies : List (List ℕ)) → length bodies ≡ length texts → map (λ entry. entry.body) (entries_of texts bodies) ≡ bodies
bodies_back [] [] same = refl
bodies_back [] (body ∷ bodies) same = absurd (omega (arith, same))
bodies_back (text ∷ texts) [] same = absurd (omega (arith, same))
bodies_back (text ∷ texts) (body ∷ bodies) same = ap (λ (others : List (List ℕ)). body ∷ others) (bodies_back texts bodies (omega (arith, same)))

module _ (limit : ℕ) (number : List ℕ) where
  -- ---- to a request for entries

  get_among : (texts : List (List ℕ)) (entries : List TpStateEntry) (status : ℕ) (found : Option (List ℕ)) (reply : Reply) → status < 2 ^ 32
      → IsSmall (framed 8 number (spelled (tp_state_get_response_pieces (record { entries = entries; status = status }))))
      → ((content : List ℕ) → found ≡ Some content → content ≡ spelled (tp_state_get_response_pieces (record { entries = entries; status = status })))
      → reply_in_get texts found ≡ Some reply → reply_to_get texts (Some (record { entries = entries; status = status })) ≡ Some reply
  get_among texts entries status None reply fits small same is = absurd cc
  get_among texts entries status (Some content) reply fits small same is =
      let written = spelled (tp_state_get_response_pieces (record { entries = entries; status = status })) in
      among (tp_state_get_response content) is (λ m read. get_response_back entries status m fits (content_small 8 number written (omega arith) small)
      (ap tp_state_get_response (sym (same content refl)) ∙ read)) where
        among : (read : Result TpStateGetResponse MessageFault) → reply_to_get texts (result_ok read) ≡ Some reply
            → ((m : TpStateGetResponse) → read ≡ Ok m → m ≡ record { entries = entries; status = status })
            → reply_to_get texts (Some (record { entries = entries; status = status })) ≡ Some reply
        among (Err e) is back = absurd cc
        among (Ok m) is back = ap (λ (m : TpStateGetResponse). reply_to_get texts (Some m)) (sym (back m refl)) ∙ is

  get_read : (texts : List (List ℕ)) (entries : List TpStateEntry) (status : ℕ) (reply : Reply) → status < 2 ^ 32
      → IsSmall (framed 8 number (spelled (tp_state_get_response_pieces (record { entries = entries; status = status }))))
      → reply_in_get texts (content_of limit 8 number (framed 8 number (spelled (tp_state_get_response_pieces (record { entries = entries; status = status }))))) ≡ Some reply
      → reply_to_get texts (Some (record { entries = entries; status = status })) ≡ Some reply
  get_read texts entries status reply fits small is =
      let written = spelled (tp_state_get_response_pieces (record { entries = entries; status = status })) in
      get_among texts entries status (content_of limit 8 number (framed 8 number written)) reply fits small
      (λ content found. content_read limit 8 number 8 number written content (omega arith) small found) is

  -- ---- to a request that sets or deletes

  set_among : (texts addresses : List (List ℕ)) (status : ℕ) (found : Option (List ℕ)) (reply : Reply) → status < 2 ^ 32
      → IsSmall (framed 10 number (spelled (tp_state_set_response_pieces (record { addresses = addresses; status = status }))))
      → ((content : List ℕ) → found ≡ Some content → content ≡ spelled (tp_state_set_response_pieces (record { addresses = addresses; status = status })))
      → reply_in_set texts found ≡ Some reply → reply_to_set texts (Some (record { addresses = addresses; status = status })) ≡ Some reply
  set_among texts addresses status None reply fits small same is = absurd cc
  set_among texts addresses status (Some content) reply fits small same is =
      let written = spelled (tp_state_set_response_pieces (record { addresses = addresses; status = status })) in
      among (tp_state_set_response content) is (λ m read. set_response_back addresses status m fits (content_small 10 number written (omega arith) small)
      (ap tp_state_set_response (sym (same content refl)) ∙ read)) where
        among : (read : Result TpStateSetResponse MessageFault) → reply_to_set texts (result_ok read) ≡ Some reply
            → ((m : TpStateSetResponse) → read ≡ Ok m → m ≡ record { addresses = addresses; status = status })
            → reply_to_set texts (Some (record { addresses = addresses; status = status })) ≡ Some reply
        among (Err e) is back = absurd cc
        among (Ok m) is back = ap (λ (m : TpStateSetResponse). reply_to_set texts (Some m)) (sym (back m refl)) ∙ is

  set_read : (texts addresses : List (List ℕ)) (status : ℕ) (reply : Reply) → status < 2 ^ 32
      → IsSmall (framed 10 number (spelled (tp_state_set_response_pieces (record { addresses = addresses; status = status }))))
      → reply_in_set texts (content_of limit 10 number (framed 10 number (spelled (tp_state_set_response_pieces (record { addresses = addresses; status = status }))))) ≡ Some reply
      → reply_to_set texts (Some (record { addresses = addresses; status = status })) ≡ Some reply
  set_read texts addresses status reply fits small is =
      let written = spelled (tp_state_set_response_pieces (record { addresses = addresses; status = status })) in
      set_among texts addresses status (content_of limit 10 number (framed 10 number written)) reply fits small
      (λ content found. content_read limit 10 number 10 number written content (omega arith) small found) is

  delete_among : (texts addresses : List (List ℕ)) (status : ℕ) (found : Option (List ℕ)) (reply : Reply) → status < 2 ^ 32
      → IsSmall (framed 12 number (spelled (tp_state_delete_response_pieces (record { addresses = addresses; status = status }))))
      → ((content : List ℕ) → found ≡ Some content → content ≡ spelled (tp_state_delete_response_pieces (record { addresses = addresses; status = status })))
      → reply_in_delete texts found ≡ Some reply → reply_to_delete texts (Some (record { addresses = addresses; status = status })) ≡ Some reply
  delete_among texts addresses status None reply fits small same is = absurd cc
  delete_among texts addresses status (Some content) reply fits small same is =
      let written = spelled (tp_state_delete_response_pieces (record { addresses = addresses; status = status })) in
      among (tp_state_delete_response content) is (λ m read. delete_response_back addresses status m fits (content_small 12 number written (omega arith) small)
      (ap tp_state_delete_response (sym (same content refl)) ∙ read)) where
        among : (read : Result TpStateDeleteResponse MessageFault) → reply_to_delete texts (result_ok read) ≡ Some reply
            → ((m : TpStateDeleteResponse) → read ≡ Ok m → m ≡ record { addresses = addresses; status = status })
            → reply_to_delete texts (Some (record { addresses = addresses; status = status })) ≡ Some reply
        among (Err e) is back = absurd cc
        among (Ok m) is back = ap (λ (m : TpStateDeleteResponse). reply_to_delete texts (Some m)) (sym (back m refl)) ∙ is

  delete_read : (texts addresses : List (List ℕ)) (status : ℕ) (reply : Reply) → status < 2 ^ 32
      → IsSmall (framed 12 number (spelled (tp_state_delete_response_pieces (record { addresses = addresses; status = status }))))
      → reply_in_delete texts (content_of limit 12 number (framed 12 number (spelled (tp_state_delete_response_pieces (record { addresses = addresses; status = status }))))) ≡ Some reply
      → reply_to_delete texts (Some (record { addresses = addresses; status = status })) ≡ Some reply
  delete_read texts addresses status reply fits small is =
      let written = spelled (tp_state_delete_response_pieces (record { addresses = addresses; status = status })) in
      delete_among texts addresses status (content_of limit 12 number (framed 12 number written)) reply fits small
      (λ content found. content_read limit 12 number 12 number written content (omega arith) small found) is

  -- ---- to an event

  event_among : (status : ℕ) (found : Option (List ℕ)) (reply : Reply) → status < 2 ^ 32
      → IsSmall (framed 16 number (spelled (tp_event_add_response_pieces (record { status = status }))))
      → ((content : List ℕ) → found ≡ Some content → content ≡ spelled (tp_event_add_response_pieces (record { status = status })))
      → reply_in_event found ≡ Some reply → reply_to_event (Some (record { status = status })) ≡ Some reply
  event_among status None reply fits small same is = absurd cc
  event_among status (Some content) reply fits small same is =
      let written = spelled (tp_event_add_response_pieces (record { status = status })) in
      let read : tp_event_add_response content ≡ Ok (record { status = status }) = ap tp_event_add_response (same content refl)
      ∙ event_response_back status fits (content_small 16 number written (omega arith) small) in
      ap (λ r. reply_to_event (result_ok r)) (sym read) ∙ is

  event_read : (status : ℕ) (reply : Reply) → status < 2 ^ 32
      → IsSmall (framed 16 number (spelled (tp_event_add_response_pieces (record { status = status }))))
      → reply_in_event (content_of limit 16 number (framed 16 number (spelled (tp_event_add_response_pieces (record { status = status }))))) ≡ Some reply
      → reply_to_event (Some (record { status = status })) ≡ Some reply
  event_read status reply fits small is =
      let written = spelled (tp_event_add_response_pieces (record { status = status })) in
      event_among status (content_of limit 16 number (framed 16 number written)) reply fits small
      (λ content found. content_read limit 16 number 16 number written content (omega arith) small found) is

  -- ---- all of these

  get_taken : (places : List Place) (given read : Reply) → fits (actions.Get places) given ≡ true
      → IsSmall (answer_by Get number (map text_at places) given)
      → reply_in_get (map text_at places) (content_of limit 8 number (answer_by Get number (map text_at places) given)) ≡ Some read
      → IsReply (actions.Get places) given read
  get_taken places (Entries bodies) read fit small is =
      let texts = map text_at places in
      let said = if_some _ _ read (get_read texts (entries_of texts bodies) 1 read (omega arith) small is) in
      let same : length bodies ≡ length texts = (nat_same (length bodies) (length places) fit) ∙ sym (map_length text_at places) in
      record { alike = ap Entries (sym (bodies_back texts bodies same)) ∙ ap with_no_index said; granted_it = refl }
  get_taken places Done read fit small is = absurd cc
  get_taken places (Unauthorized index) read fit small is =
      record { alike = ap with_no_index (some_same _ read (get_read (map text_at places) [] 2 read (omega arith) small is)); granted_it = refl }

  set_taken : (entries : List Entry) (given read : Reply) → fits (actions.Set entries) given ≡ true
      → IsSmall (answer_by Set number (map (λ entry. text_at entry.place) entries) given)
      → reply_in_set (map (λ entry. text_at entry.place) entries) (content_of limit 10 number (answer_by Set number (map (λ entry. text_at entry.place) entries) given)) ≡ Some read
      → IsReply (actions.Set entries) given read
  set_taken entries (Entries bodies) read fit small is = absurd cc
  set_taken entries Done read fit small is =
      let texts = map (λ (entry : Entry). text_at entry.place) entries in
      record { alike = ap with_no_index (if_some _ _ read (set_read texts texts 1 read (omega arith) small is)); granted_it = refl }
  set_taken entries (Unauthorized index) read fit small is =
      record { alike = ap with_no_index (some_same _ read (set_read (map (λ (entry : Entry). text_at entry.place) entries) [] 2 read (omega arith) small is)); granted_it = refl }

  delete_taken : (places : List Place) (given read : Reply) → fits (actions.Delete places) given ≡ true
      → IsSmall (answer_by Delete number (map text_at places) given)
      → reply_in_delete (map text_at places) (content_of limit 12 number (answer_by Delete number (map text_at places) given)) ≡ Some read
      → IsReply (actions.Delete places) given read
  delete_taken places (Entries bodies) read fit small is = absurd cc
  delete_taken places Done read fit small is =
      record { alike = ap with_no_index (if_some _ _ read (delete_read (map text_at places) (map text_at places) 1 read (omega arith) small is)); granted_it = refl }
  delete_taken places (Unauthorized index) read fit small is =
      record { alike = ap with_no_index (some_same _ read (delete_read (map text_at places) [] 2 read (omega arith) small is)); granted_it = refl }

  event_taken : (event : Event) (given read : Reply) → fits (actions.AddEvent event) given ≡ true
      → IsSmall (answer_by AddEvent number [] given)
      → reply_in_event (content_of limit 16 number (answer_by AddEvent number [] given)) ≡ Some read
      → IsReply (actions.AddEvent event) given read
  event_taken event (Entries bodies) read fit small is = absurd cc
  event_taken event Done read fit small is =
      let said = some_same Done read (event_read 1 read (omega arith) small is) in
      record { alike = ap with_no_index said; granted_it = ap (is_refused_event (actions.AddEvent event)) (sym said) }
  event_taken event (Unauthorized index) read fit small is = absurd cc

  -- the answer that a station gives to an action that it refuses says so
  pub refusal_taken : (action : Action) (asked : Asked) (read : Reply) → asked_by number action ≡ Some asked → IsSmall (answer asked (Unauthorized 0))
      → reply_of limit number action (answer asked (Unauthorized 0)) ≡ Some read → read ≡ Unauthorized 0
  refusal_taken (actions.Get places) asked read asked_is small is =
      let e = sym (some_same _ asked asked_is) in
      sym (some_same _ read (get_read (map text_at places) [] 2 read (omega arith) (subst (λ (q : Asked). IsSmall (answer q (Unauthorized 0))) e small)
      (subst (λ (q : Asked). reply_of limit number (actions.Get places) (answer q (Unauthorized 0)) ≡ Some read) e is)))
  refusal_taken (actions.Set entries) asked read asked_is small is =
      let e = sym (some_same _ asked asked_is) in
      sym (some_same _ read (set_read (map (λ (entry : Entry). text_at entry.place) entries) [] 2 read (omega arith)
      (subst (λ (q : Asked). IsSmall (answer q (Unauthorized 0))) e small)
      (subst (λ (q : Asked). reply_of limit number (actions.Set entries) (answer q (Unauthorized 0)) ≡ Some read) e is)))
  refusal_taken (actions.Delete places) asked read asked_is small is =
      let e = sym (some_same _ asked asked_is) in
      sym (some_same _ read (delete_read (map text_at places) [] 2 read (omega arith) (subst (λ (q : Asked). IsSmall (answer q (Unauthorized 0))) e small)
      (subst (λ (q : Asked). reply_of limit number (actions.Delete places) (answer q (Unauthorized 0)) ≡ Some read) e is)))
  refusal_taken (actions.AddEvent event) asked read asked_is small is =
      let e = sym (some_same _ asked asked_is) in
      sym (some_same _ read (event_read 2 read (omega arith) (subst (λ (q : Asked). IsSmall (answer q (Unauthorized 0))) e small)
      (subst (λ (q : Asked). reply_of limit number (actions.AddEvent event) (answer q (Unauthorized 0)) ≡ Some read) e is)))
  refusal_taken actions.Ok asked read asked_is small is = absurd cc
  refusal_taken (actions.Invalid reason) asked read asked_is small is = absurd cc

  -- the answer that a station gives to an action says its reply
  pub reply_taken : (action : Action) (asked : Asked) (given read : Reply) → asked_by number action ≡ Some asked → fits action given ≡ true
      → IsSmall (answer asked given) → reply_of limit number action (answer asked given) ≡ Some read → IsReply action given read
  reply_taken (actions.Get places) asked given read asked_is fit small is =
      let e = sym (some_same _ asked asked_is) in
      get_taken places given read fit (subst (λ (q : Asked). IsSmall (answer q given)) e small)
      (subst (λ (q : Asked). reply_of limit number (actions.Get places) (answer q given) ≡ Some read) e is)
  reply_taken (actions.Set entries) asked given read asked_is fit small is =
      let e = sym (some_same _ asked asked_is) in
      set_taken entries given read fit (subst (λ (q : Asked). IsSmall (answer q given)) e small)
      (subst (λ (q : Asked). reply_of limit number (actions.Set entries) (answer q given) ≡ Some read) e is)
  reply_taken (actions.Delete places) asked given read asked_is fit small is =
      let e = sym (some_same _ asked asked_is) in
      delete_taken places given read fit (subst (λ (q : Asked). IsSmall (answer q given)) e small)
      (subst (λ (q : Asked). reply_of limit number (actions.Delete places) (answer q given) ≡ Some read) e is)
  reply_taken (actions.AddEvent event) asked given read asked_is fit small is =
      let e = sym (some_same _ asked asked_is) in
      event_taken event given read fit (subst (λ (q : Asked). IsSmall (answer q given)) e small)
      (subst (λ (q : Asked). reply_of limit number (actions.AddEvent event) (answer q given) ≡ Some read) e is)
  reply_taken actions.Ok asked given read asked_is fit small is = absurd cc
  reply_taken (actions.Invalid reason) asked given read asked_is fit small is = absurd cc
