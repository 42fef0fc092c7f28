-- What a processor reads in the frames of a station.
use Rattle.std.proofs.Common.{◌≡◌, ◌≤◌, ◌<◌, ◌+◌, ◌^◌, ◌==◌, ◌&&◌, ℕ, Bool, true, false, List, [], ◌∷◌, ◌++◌, length, map, Option, Some, None, Result, Ok, Err, refl, sym, ap, subst, ◌∙◌, arith}
use Rattle.std.specs.Prelude.{nat_lt, if◌then◌else◌}
use Rattle.std.specs.List.{AllByRecursion, cons_option, filter_map, flat_map}
use Rattle.std.specs.Result.{result_ok}
use Rattle.std.specs.Str.{bytes_eq}
use Rattle.std.proofs.lemmas.Bool.Decides.{nat_tests}
use Rattle.std.proofs.lemmas.List.{append-nil}
use Rattle.saw_wire.specs.Fields.{all_bytes, all_items, embedded, inner_fault, inner_pieces, item_fault, text_fault, chunk_in, number_in}
use Rattle.saw_wire.specs.MessageFaults.{◌<|>◌}
use Rattle.saw_wire.specs.MessageReading.{fault_among, fault_of, first_fault, pieces_of, reading, unless}
use Rattle.saw_wire.proofs.FieldFaults.{none_left}
use Rattle.saw_wire.specs.Pieces.{Chunk, Piece}
use Rattle.saw_wire.specs.Reading.{records_of, records_from}
use Rattle.saw_wire.specs.Writing.{AreWritable, bytes_pieces, number_pieces, spelled}
use Rattle.saw_wire.specs.Written.{items_pieces}
use Rattle.saw_wire.specs.declared.fault.MessageFault.{MessageFault}
use Rattle.saw_wire.proofs.FieldsBack.{field_values, bytes_values, number_values, bytes_back, small_back}
use Rattle.saw_wire.proofs.ReadBack.{written_back}
use Rattle.saw_messages.specs.Transactions.{transaction_header, transaction_header_fault, transaction_header_of}
use Rattle.saw_messages.specs.declared.transaction.Transaction.{Transaction}
use Rattle.saw_messages.specs.declared.transaction.TransactionHeader.{TransactionHeader}
use Rattle.saw_messages.specs.TxShapes.{TxShape, header_by, shape_in}
use Rattle.saw_messages.specs.declared.talk.Action.{Action}
use Rattle.saw_messages.specs.declared.talk.Action.TheVariants as actions
use Rattle.saw_messages.specs.declared.talk.Reply.{Reply}
use Rattle.saw_messages.specs.declared.talk.Reply.TheVariants.{Entries, Done, Unauthorized}
use Rattle.saw_linkmsg.specs.Envelopes.{envelope, envelope_of, envelope_pieces}
use Rattle.saw_linkmsg.proofs.EventsBack.{tp_event_add_response_is_read}
use Rattle.saw_linkmsg.proofs.RegistersBack.{tp_register_response_is_read}
use Rattle.saw_linkmsg.specs.ProcessMessages.{tp_process_request, tp_process_request_fault, tp_process_request_of}
use Rattle.saw_linkmsg.specs.RegisterMessages.{tp_register_response, tp_register_response_of, tp_register_response_pieces}
use Rattle.saw_linkmsg.specs.StateMessages.{tp_state_entry_of, tp_state_entry_pieces, tp_state_get_response, tp_state_get_response_of, tp_state_get_response_pieces}
use Rattle.saw_linkmsg.specs.StateMessages.{tp_state_set_response, tp_state_set_response_of, tp_state_set_response_pieces}
use Rattle.saw_linkmsg.specs.StateMessages.{tp_state_delete_response, tp_state_delete_response_of, tp_state_delete_response_pieces}
use Rattle.saw_linkmsg.specs.EventMessages.{tp_event_add_response, tp_event_add_response_of, tp_event_add_response_pieces}
use Rattle.saw_linkmsg.specs.declared.envelope.Envelope.{Envelope}
use Rattle.saw_linkmsg.specs.declared.process.TpProcessRequest.{TpProcessRequest}
use Rattle.saw_linkmsg.specs.declared.state.TpStateEntry.{TpStateEntry}
use Rattle.saw_linkmsg.specs.declared.state.TpStateGetResponse.{TpStateGetResponse}
use Rattle.saw_linkmsg.specs.declared.state.TpStateSetResponse.{TpStateSetResponse}
use Rattle.saw_linkmsg.specs.declared.state.TpStateDeleteResponse.{TpStateDeleteResponse}
use Rattle.saw_link.specs.SentFrames.{framed, process_content}
use Rattle.saw_tpside.proofs.Fitting.{AllMay, ◌and◌, all_fit, bytes_may, items_may, number_may, texts_may}
use Rattle.saw_tpside.proofs.Said.{embedded_small, entry_may, envelope_may, first_fits, items_fit, second_fits}
use Rattle.saw_tpside.specs.StationFrames.{content_in, content_of}

-- ---- a message that is read is the one that was written

said_by_fault : {A : Type 0} (fault : Option MessageFault) (x m : A) → unless fault x ≡ Ok m → x ≡ m
said_by_fault None x m is = cc
said_by_fault (Some e) x m is = absurd cc

-- of records that can be written it is what these say
pub read_as : {A : Type 0} (of : List Piece → A) (fault : Piece → Option MessageFault) (pieces : List Piece) (bytes : List ℕ) (m : A) → bytes ≡ spelled pieces
    → AreWritable pieces → reading of fault bytes ≡ Ok m → of pieces ≡ m
unfolding pieces_of
read_as of fault pieces bytes m is fits read =
    let back : pieces_of bytes ≡ pieces = ap pieces_of is ∙ rw (written_back pieces fits) refl in
    ap of (sym back) ∙ said_by_fault (fault_of fault bytes) (of (pieces_of bytes)) m read

-- ---- the envelope

envelope_says : (m : Envelope) → m.message_type < 2 ^ 32 → envelope_of (envelope_pieces m) ≡ m
envelope_says m small = rw (
  small_back 1 (envelope_pieces m) m.message_type (simp field_values) small,
  bytes_back 2 (envelope_pieces m) m.correlation_id (simp field_values),
  bytes_back 3 (envelope_pieces m) m.content (simp field_values),
) refl

some_same : {A : Type 0} (x y : A) → Some x ≡ Some y → x ≡ y
some_same x y e = cc

if_some : {A : Type 0} (test : Bool) (x y : A) → (if test then Some x else None) ≡ Some y → x ≡ y
if_some true x y is = some_same x y is
if_some false x y is = absurd cc

content_among : (kind : ℕ) (correlation content : List ℕ) (read : Result Envelope MessageFault) (expected : Envelope)
    → ((m : Envelope) → read ≡ Ok m → expected ≡ m) → content_in kind correlation (result_ok read) ≡ Some content → content ≡ expected.content
content_among kind correlation content (Err e) expected same is = absurd cc
content_among kind correlation content (Ok m) expected same is =
    sym (if_some (m.message_type == kind && bytes_eq m.correlation_id correlation) m.content content is) ∙ ap (λ (m : Envelope). m.content) (sym (same m refl))

content_in_limit : (above : Bool) (found : Option (List ℕ)) (content : List ℕ) → (if above then None else found) ≡ Some content → found ≡ Some content
content_in_limit true found content is = absurd cc
content_in_limit false found content is = is

-- how long what is written may be
abbrev pub IsSmall : List ℕ → Type 0
IsSmall bytes = length bytes < 2 ^ 64

fits_envelope : (m : Envelope) → m.message_type < 2 ^ 32 → IsSmall (spelled (envelope_pieces m)) → AreWritable (envelope_pieces m)
fits_envelope m kind small = all_fit (envelope_pieces m) (envelope_may m (omega arith)).each small

-- the content of a frame is that which was written into it
pub content_read : (limit kind : ℕ) (correlation : List ℕ) (sent_kind : ℕ) (sent_correlation sent_content content : List ℕ) → sent_kind < 2 ^ 32
    → IsSmall (framed sent_kind sent_correlation sent_content)
    → content_of limit kind correlation (framed sent_kind sent_correlation sent_content) ≡ Some content → content ≡ sent_content
unfolding content_of
content_read limit kind correlation sent_kind sent_correlation sent_content content fits small is =
    let m : Envelope = record { message_type = sent_kind; correlation_id = sent_correlation; content = sent_content } in
    let frame = framed sent_kind sent_correlation sent_content in
    content_among kind correlation content (envelope frame) m
    (λ other read. sym (envelope_says m fits) ∙ read_as envelope_of _ (envelope_pieces m) frame other refl (fits_envelope m fits small) read)
    (content_in_limit (nat_lt limit (length frame)) _ content is)

-- and it is no longer than the frame
pub content_small : (kind : ℕ) (correlation content : List ℕ) → kind < 2 ^ 32 → IsSmall (framed kind correlation content) → IsSmall content
content_small kind correlation content fits small =
    let m : Envelope = record { message_type = kind; correlation_id = correlation; content = content } in
    embedded_small 3 content (length content == 0) refl
    (second_fits (number_pieces 1 kind ++ bytes_pieces 2 correlation) (bytes_pieces 3 content) (fits_envelope m fits small))

-- ---- the answer to a registration

response_may : (status protocol : ℕ) → status < 2 ^ 32 → protocol < 2 ^ 32
    → AllMay (tp_register_response_pieces (record { status = status; protocol_version = protocol }))
response_may status protocol first second =
    number_may 1 status (omega arith, omega arith) (omega arith) and number_may 2 protocol (omega arith, omega arith) (omega arith)

pub register_response_back : (status protocol : ℕ) → status < 2 ^ 32 → protocol < 2 ^ 32
    → IsSmall (spelled (tp_register_response_pieces (record { status = status; protocol_version = protocol })))
    → tp_register_response (spelled (tp_register_response_pieces (record { status = status; protocol_version = protocol })))
    ≡ Ok (record { status = status; protocol_version = protocol })
register_response_back status protocol first second small = tp_register_response_is_read (record { status = status; protocol_version = protocol }) (record {
  status = first;
  protocol_version = second;
  fits = all_fit _ (response_may status protocol first second).each small;
})

-- ---- a transaction to be run

abbrev parts : List ℕ → List ℕ → List ℕ → List ℕ → List ℕ → List Piece
parts first payload signature context fifth =
    bytes_pieces 1 first ++ bytes_pieces 2 payload ++ bytes_pieces 3 signature ++ bytes_pieces 4 context ++ bytes_pieces 5 fifth

parts_may : (first payload signature context fifth : List ℕ) → AllMay (parts first payload signature context fifth)
parts_may first payload signature context fifth =
    (((bytes_may 1 first (omega arith, omega arith)
    and bytes_may 2 payload (omega arith, omega arith))
    and bytes_may 3 signature (omega arith, omega arith))
    and bytes_may 4 context (omega arith, omega arith))
    and bytes_may 5 fifth (omega arith, omega arith)

embedded_is : (field : ℕ) (records : List Piece) → embedded field records ≡ flat_map pieces_of (all_bytes field records)
embedded_is field [] = refl
embedded_is field (one ∷ records) =
    rw (embedded_is field records) (inner_append (chunk_in field one) (all_bytes field records)) where
      inner_append : (shown : Option (List ℕ)) (others : List (List ℕ))
          → inner_pieces shown ++ flat_map pieces_of others ≡ flat_map pieces_of (cons_option shown others)
      inner_append None others = refl
      inner_append (Some bytes) others = refl

not_zero : (n : ℕ) → 0 < n → (n == 0) ≡ false
not_zero n some = grind (arith, nat_tests)

said_by_none : pieces_of [] ≡ []
unfolding pieces_of records_of records_from
said_by_none = refl

said_by_values : (bytes : List ℕ) → flat_map pieces_of (bytes_values bytes) ≡ pieces_of bytes
said_by_values [] = sym said_by_none
said_by_values (x ∷ bytes) = let some = not_zero (length (x ∷ bytes)) (omega arith) in rw some (append-nil (pieces_of (x ∷ bytes)))

-- a chunk that is embedded has the message that its bytes say
raw_back : (first payload signature context fifth : List ℕ) → embedded 1 (parts first payload signature context fifth) ≡ pieces_of first
raw_back first payload signature context fifth =
    let shown : all_bytes 1 (parts first payload signature context fifth) ≡ bytes_values first = simp field_values in
    rw (embedded_is 1 (parts first payload signature context fifth), shown) (said_by_values first)

no_fault_of_none : (fault : Piece → Option MessageFault) → fault_of fault [] ≡ None
unfolding fault_of first_fault records_of records_from
no_fault_of_none fault = refl

one_piece : (x : ℕ) (first : List ℕ) → bytes_pieces 1 (x ∷ first) ≡ record { field = 1; content = Chunk (x ∷ first) } ∷ []
one_piece x first = let some = not_zero (length (x ∷ first)) (omega arith) in rw some refl

-- a first piece of records without faults has none
first_faultless : (piece : Piece) (others : List Piece) → first_fault tp_process_request_fault (piece ∷ others) ≡ None
    → item_fault transaction_header_fault 1 piece ≡ None
unfolding first_fault
first_faultless piece others none =
    let here = (none_left (tp_process_request_fault piece) (first_fault tp_process_request_fault others) none).0 in
    (none_left (item_fault transaction_header_fault 1 piece) (text_fault 3 piece <|> text_fault 4 piece) here).0

chunk_fault : (bytes : List ℕ) → item_fault transaction_header_fault 1 (record { field = 1; content = Chunk bytes }) ≡ fault_of transaction_header_fault bytes
unfolding item_fault chunk_in
chunk_fault bytes = refl

-- a chunk of a message without faults has none
chunk_faultless : (first payload signature context fifth : List ℕ) → first_fault tp_process_request_fault (parts first payload signature context fifth) ≡ None
    → fault_of transaction_header_fault first ≡ None
chunk_faultless [] payload signature context fifth none = no_fault_of_none transaction_header_fault
chunk_faultless (x ∷ first) payload signature context fifth none =
    let P : List Piece → Type 0 = λ pieces.
    first_fault tp_process_request_fault (pieces ++ bytes_pieces 2 payload ++ bytes_pieces 3 signature ++ bytes_pieces 4 context ++ bytes_pieces 5 fifth) ≡ None in
    sym (chunk_fault (x ∷ first))
    ∙ first_faultless (record { field = 1; content = Chunk (x ∷ first) })
    ([] ++ bytes_pieces 2 payload ++ bytes_pieces 3 signature ++ bytes_pieces 4 context ++ bytes_pieces 5 fifth) (subst P (one_piece x first) none)

fault_none : {A : Type 0} (fault : Option MessageFault) (x m : A) → unless fault x ≡ Ok m → fault ≡ None
fault_none None x m is = refl
fault_none (Some e) x m is = absurd cc

-- what a request for a transaction says of its header and its payload
pub record ReadsProcess (first payload fifth : List ℕ) (m : TpProcessRequest) : Type 0 where
  pub header : header_by (transaction_header first) ≡ m.header
  pub payload_is : m.payload ≡ payload
  pub header_bytes : m.header_bytes ≡ fifth

header_read : (fault : Option MessageFault) (header : TransactionHeader) → fault ≡ None → header_by (unless fault header) ≡ header
header_read None header none = refl
header_read (Some e) header none = absurd cc

process_read : (first payload signature context fifth : List ℕ) (m : TpProcessRequest) → IsSmall (spelled (parts first payload signature context fifth))
    → tp_process_request (spelled (parts first payload signature context fifth)) ≡ Ok m → ReadsProcess first payload fifth m
unfolding fault_of pieces_of
process_read first payload signature context fifth m small read =
    let pieces = parts first payload signature context fifth in
    let fits : AreWritable pieces = all_fit pieces (parts_may first payload signature context fifth).each small in
    let is : tp_process_request_of pieces ≡ m = read_as tp_process_request_of tp_process_request_fault pieces (spelled pieces) m refl fits read in
    let clean : first_fault tp_process_request_fault pieces ≡ None = ap (fault_among tp_process_request_fault) (sym (written_back pieces fits))
    ∙ fault_none (fault_of tp_process_request_fault (spelled pieces)) _ m read in
    record {
      header = header_read (fault_of transaction_header_fault first) (transaction_header_of (pieces_of first))
          (chunk_faultless first payload signature context fifth clean)
          ∙ ap transaction_header_of (sym (raw_back first payload signature context fifth)) ∙ ap (λ (m : TpProcessRequest). m.header) is;
      payload_is = sym (ap (λ (m : TpProcessRequest). m.payload) is) ∙ bytes_back 2 pieces payload (simp field_values);
      header_bytes = sym (ap (λ (m : TpProcessRequest). m.header_bytes) is) ∙ bytes_back 5 pieces fifth (simp field_values);
    }

-- on a link of this version
pub process_back : (version : ℕ) (context : List ℕ) (tx : Transaction) (m : TpProcessRequest) → IsSmall (process_content version context tx)
    → tp_process_request (process_content version context tx) ≡ Ok m
    → ReadsProcess (if version == 2 then [] else tx.header) tx.payload (if version == 2 then tx.header else []) m
process_back version context tx m small read =
    process_read (if version == 2 then [] else tx.header) tx.payload tx.header_signature context (if version == 2 then tx.header else []) m small read

-- ---- answers

entry_said : (m : TpStateEntry) → AreWritable (tp_state_entry_pieces m) → tp_state_entry_of (pieces_of (spelled (tp_state_entry_pieces m))) ≡ m
unfolding pieces_of
entry_said m fits = rw (
  written_back (tp_state_entry_pieces m) fits,
  bytes_back 1 (tp_state_entry_pieces m) m.address (simp field_values),
  bytes_back 2 (tp_state_entry_pieces m) m.body (simp field_values),
) refl

entries_said : (entries : List TpStateEntry) → AllByRecursion (λ entry. AreWritable (tp_state_entry_pieces entry)) entries
    → map (λ bytes. tp_state_entry_of (pieces_of bytes)) (map (λ entry. spelled (tp_state_entry_pieces entry)) entries) ≡ entries
entries_said [] fit = refl
entries_said (entry ∷ entries) fit = rw (entry_said entry fit.0) (ap (λ (others : List TpStateEntry). entry ∷ others) (entries_said entries fit.1))

get_response_may : (entries : List TpStateEntry) (status : ℕ) → status < 2 ^ 32
    → AllMay (tp_state_get_response_pieces (record { entries = entries; status = status }))
get_response_may entries status small = items_may tp_state_entry_pieces 1 entries (omega arith, omega arith) and number_may 2 status (omega arith, omega arith) (omega arith)

each_true : (entries : List TpStateEntry) → AllByRecursion (λ entry. Unit {0}) entries
each_true [] = tt
each_true (entry ∷ entries) = (tt, each_true entries)

pub get_response_back : (entries : List TpStateEntry) (status : ℕ) (m : TpStateGetResponse) → status < 2 ^ 32
    → IsSmall (spelled (tp_state_get_response_pieces (record { entries = entries; status = status })))
    → tp_state_get_response (spelled (tp_state_get_response_pieces (record { entries = entries; status = status }))) ≡ Ok m
    → m ≡ record { entries = entries; status = status }
get_response_back entries status m fits small read =
    let pieces = tp_state_get_response_pieces (record { entries = entries; status = status }) in
    let all = all_fit pieces (get_response_may entries status fits).each small in
    let each = items_fit tp_state_entry_pieces 1 (λ entry small text. all_fit (tp_state_entry_pieces entry) (entry_may entry).each small) entries (each_true entries)
    (first_fits (items_pieces tp_state_entry_pieces 1 entries) _ all) in
    let shown : all_bytes 1 pieces ≡ map (λ entry. spelled (tp_state_entry_pieces entry)) entries = simp field_values in
    sym (read_as tp_state_get_response_of _ pieces (spelled pieces) m refl all read)
    ∙ rw (small_back 2 pieces status (simp field_values) fits, shown, entries_said entries each) refl

set_response_may : (texts : List (List ℕ)) (status : ℕ) → status < 2 ^ 32
    → AllMay (tp_state_set_response_pieces (record { addresses = texts; status = status }))
set_response_may texts status small = texts_may 1 texts (omega arith, omega arith) and number_may 2 status (omega arith, omega arith) (omega arith)

pub set_response_back : (texts : List (List ℕ)) (status : ℕ) (m : TpStateSetResponse) → status < 2 ^ 32
    → IsSmall (spelled (tp_state_set_response_pieces (record { addresses = texts; status = status })))
    → tp_state_set_response (spelled (tp_state_set_response_pieces (record { addresses = texts; status = status }))) ≡ Ok m
    → m ≡ record { addresses = texts; status = status }
set_response_back texts status m fits small read =
    let pieces = tp_state_set_response_pieces (record { addresses = texts; status = status }) in
    let all = all_fit pieces (set_response_may texts status fits).each small in
    let shown : all_bytes 1 pieces ≡ texts = simp field_values in
    sym (read_as tp_state_set_response_of _ pieces (spelled pieces) m refl all read)
    ∙ rw (small_back 2 pieces status (simp field_values) fits, shown) refl

delete_response_may : (texts : List (List ℕ)) (status : ℕ) → status < 2 ^ 32
    → AllMay (tp_state_delete_response_pieces (record { addresses = texts; status = status }))
delete_response_may texts status small = texts_may 1 texts (omega arith, omega arith) and number_may 2 status (omega arith, omega arith) (omega arith)

pub delete_response_back : (texts : List (List ℕ)) (status : ℕ) (m : TpStateDeleteResponse) → status < 2 ^ 32
    → IsSmall (spelled (tp_state_delete_response_pieces (record { addresses = texts; status = status })))
    → tp_state_delete_response (spelled (tp_state_delete_response_pieces (record { addresses = texts; status = status }))) ≡ Ok m
    → m ≡ record { addresses = texts; status = status }
delete_response_back texts status m fits small read =
    let pieces = tp_state_delete_response_pieces (record { addresses = texts; status = status }) in
    let all = all_fit pieces (delete_response_may texts status fits).each small in
    let shown : all_bytes 1 pieces ≡ texts = simp field_values in
    sym (read_as tp_state_delete_response_of _ pieces (spelled pieces) m refl all read)
    ∙ rw (small_back 2 pieces status (simp field_values) fits, shown) refl

event_response_may : (status : ℕ) → status < 2 ^ 32 → AllMay (tp_event_add_response_pieces (record { status = status }))
event_response_may status small = number_may 2 status (omega arith, omega arith) (omega arith)

pub event_response_back : (status : ℕ) → status < 2 ^ 32 → IsSmall (spelled (tp_event_add_response_pieces (record { status = status })))
    → tp_event_add_response (spelled (tp_event_add_response_pieces (record { status = status }))) ≡ Ok (record { status = status })
event_response_back status first small = tp_event_add_response_is_read (record { status = status }) (record {
  status = first;
  fits = all_fit _ (event_response_may status first).each small;
})
