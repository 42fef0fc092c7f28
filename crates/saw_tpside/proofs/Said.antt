-- A station understands the frames of a processor.
use Rattle.std.proofs.Common.{◌≡◌, ◌≤◌, ◌<◌, ◌+◌, ◌^◌, ◌==◌, ℕ, Bool, true, false, List, [], ◌∷◌, ◌++◌, length, map, Option, Some, None, Ok, refl, sym, ap, subst, ◌∙◌, arith}
use Rattle.std.specs.Prelude.{nat_lt, if◌then◌else◌}
use Rattle.std.specs.Fmt.{decimal}
use Rattle.std.specs.List.{AllByRecursion}
use Rattle.std.specs.Result.{result_ok}
use Rattle.std.specs.Str.{bytes_eq, is_utf8}
use Rattle.std.specs.Cmp.Lexicographic.{nat_list_eq_equiv}
use Rattle.std.proofs.lemmas.Bool.Decides.{nat_tests}
use Rattle.saw_wire.specs.Writing.{spelled, AreWritable, bytes_pieces, item_pieces}
use Rattle.saw_wire.specs.Pieces.{Chunk, Piece}
use Rattle.saw_wire.specs.Written.{items_pieces}
use Rattle.saw_messages.specs.ReadBack.{IsAttribute, IsEvent, IsText}
use Rattle.saw_messages.specs.Receipts.{attribute_pieces, event_pieces}
use Rattle.saw_messages.specs.declared.receipt.Attribute.{Attribute}
use Rattle.saw_messages.specs.declared.receipt.Event.{Event}
use Rattle.saw_messages.specs.declared.talk.Action.TheVariants as actions
use Rattle.saw_messages.specs.declared.talk.Entry.{Entry}
use Rattle.saw_messages.specs.declared.talk.Place.{Place}
use Rattle.saw_linkmsg.proofs.EnvelopesBack.{envelope_is_read}
use Rattle.saw_linkmsg.proofs.EventsBack.{tp_event_add_request_is_read}
use Rattle.saw_linkmsg.proofs.ProcessesBack.{tp_process_response_is_read}
use Rattle.saw_linkmsg.proofs.RegistersBack.{tp_register_request_is_read}
use Rattle.saw_linkmsg.proofs.StateRequestsBack.{tp_state_get_request_is_read, tp_state_set_request_is_read, tp_state_delete_request_is_read}
use Rattle.saw_linkmsg.specs.Envelopes.{envelope, envelope_pieces}
use Rattle.saw_linkmsg.specs.EventMessages.{tp_event_add_request, tp_event_add_request_pieces}
use Rattle.saw_linkmsg.specs.LinkReadBack.{IsTpStateEntry}
use Rattle.saw_linkmsg.specs.ProcessMessages.{tp_process_response, tp_process_response_pieces}
use Rattle.saw_linkmsg.specs.RegisterMessages.{tp_register_request, tp_register_request_pieces}
use Rattle.saw_linkmsg.specs.StateMessages.{tp_state_entry_pieces, tp_state_get_request, tp_state_get_request_pieces, tp_state_set_request}
use Rattle.saw_linkmsg.specs.StateMessages.{tp_state_set_request_pieces, tp_state_delete_request, tp_state_delete_request_pieces}
use Rattle.saw_linkmsg.specs.declared.envelope.Envelope.{Envelope}
use Rattle.saw_linkmsg.specs.declared.register.TpRegisterRequest.{TpRegisterRequest}
use Rattle.saw_linkmsg.specs.declared.state.TpStateEntry.{TpStateEntry}
use Rattle.saw_link.specs.Hearing.{heard, heard_message, heard_get, heard_set, heard_delete, heard_event, registration, registration_in, place_of, entry_of, asks, finish}
use Rattle.saw_link.specs.SentFrames.{framed}
use Rattle.saw_link.specs.declared.heard.Heard.{Heard}
use Rattle.saw_link.specs.declared.heard.Heard.TheVariants.{Asks}
use Rattle.saw_link.specs.declared.heard.Kind.TheVariants.{Get, Set, Delete, AddEvent}
use Rattle.saw_station.specs.declared.offer.Offer.{Offer}
use Rattle.saw_tpside.proofs.Fitting.{AllMay, ◌and◌, all_fit, bytes_may, items_may, number_may, texts_may}
use Rattle.saw_tpside.specs.ProcessorFrames.{entry_at, registering, text_at}
use Rattle.saw_tpside.specs.Understood.{IsEnd, IsRegistration, Says}
use Rattle.saw_tpside.specs.WrittenTexts.{AreEventTexts, HasText, HasTexts}

-- ---- the envelope

pub envelope_may : (m : Envelope) → m.message_type < 2 ^ 64 → AllMay (envelope_pieces m)
envelope_may m small =
    (number_may 1 m.message_type (omega arith, omega arith) small
    and bytes_may 2 m.correlation_id (omega arith, omega arith))
    and bytes_may 3 m.content (omega arith, omega arith)

-- a frame is read back
pub envelope_back : (kind : ℕ) (correlation content frame : List ℕ) → kind < 2 ^ 32 → IsText correlation → frame ≡ framed kind correlation content
    → length frame < 2 ^ 64 → envelope frame ≡ Ok (record { message_type = kind; correlation_id = correlation; content = content })
envelope_back kind correlation content frame small text is fits =
    let m : Envelope = record { message_type = kind; correlation_id = correlation; content = content } in
    ap envelope is ∙ envelope_is_read m (record {
      message_type = small;
      correlation_id = text;
      fits = all_fit (envelope_pieces m) (envelope_may m (omega arith)).each (subst (λ (l : List ℕ). length l < 2 ^ 64) is fits);
    })

within : (limit n : ℕ) → n ≤ limit → nat_lt limit n ≡ false
within limit n fits = grind (arith, nat_tests)

heard_back : (limit : ℕ) (context frame : List ℕ) (m : Envelope) → length frame ≤ limit → envelope frame ≡ Ok m
    → heard limit context frame ≡ heard_message context (Some m)
unfolding heard
heard_back limit context frame m short read = rw (within limit (length frame) short, read) refl

registration_back : (limit : ℕ) (frame : List ℕ) (m : Envelope) → length frame ≤ limit → envelope frame ≡ Ok m
    → registration limit frame ≡ registration_in (Some m)
unfolding registration
registration_back limit frame m short read = rw (within limit (length frame) short, read) refl

pub itself : (text : List ℕ) → bytes_eq text text ≡ true
itself text = nat_list_eq_equiv.refl text

-- ---- requests for entries

get_may : (context : List ℕ) (texts : List (List ℕ)) → AllMay (tp_state_get_request_pieces (record { context_id = context; addresses = texts }))
get_may context texts = bytes_may 1 context (omega arith, omega arith) and texts_may 2 texts (omega arith, omega arith)

pub says_get : (context number : List ℕ) (places : List Place) (texts : List (List ℕ)) (content frame : List ℕ) → IsText context → IsText number
    → AllByRecursion IsText texts → texts ≡ map text_at places → map place_of texts ≡ places
    → content ≡ spelled (tp_state_get_request_pieces (record { context_id = context; addresses = texts })) → length content < 2 ^ 64
    → frame ≡ framed 7 number content → length frame < 2 ^ 64 → Says context number (actions.Get places) frame
says_get context number places texts content frame context_is number_is are texts_are places_are content_is content_fits is fits limit short =
    let read : tp_state_get_request content ≡ Ok (record { context_id = context; addresses = texts }) = ap tp_state_get_request content_is
    ∙ tp_state_get_request_is_read (record { context_id = context; addresses = texts }) (record {
      context_id = context_is;
      addresses = are;
      fits = all_fit _ (get_may context texts).each (subst (λ (l : List ℕ). length l < 2 ^ 64) content_is content_fits);
    }) in
    heard_back limit context frame (record { message_type = 7; correlation_id = number; content = content }) short
    (envelope_back 7 number content frame (omega arith) number_is is fits)
    ∙ ap (λ r. heard_get context number (result_ok r)) read
    ∙ ap (λ same. asks same (record { kind = Get; correlation = number; texts = texts }) (actions.Get (map place_of texts))) (itself context)
    ∙ ap (λ t. Asks (record { kind = Get; correlation = number; texts = t }) (actions.Get (map place_of texts))) texts_are
    ∙ ap (λ p. Asks (record { kind = Get; correlation = number; texts = map text_at places }) (actions.Get p)) places_are

delete_may : (context : List ℕ) (texts : List (List ℕ)) → AllMay (tp_state_delete_request_pieces (record { context_id = context; addresses = texts }))
delete_may context texts = bytes_may 1 context (omega arith, omega arith) and texts_may 2 texts (omega arith, omega arith)

pub says_delete : (context number : List ℕ) (places : List Place) (texts : List (List ℕ)) (content frame : List ℕ) → IsText context → IsText number
    → AllByRecursion IsText texts → texts ≡ map text_at places → map place_of texts ≡ places
    → content ≡ spelled (tp_state_delete_request_pieces (record { context_id = context; addresses = texts })) → length content < 2 ^ 64
    → frame ≡ framed 11 number content → length frame < 2 ^ 64 → Says context number (actions.Delete places) frame
says_delete context number places texts content frame context_is number_is are texts_are places_are content_is content_fits is fits limit short =
    let read : tp_state_delete_request content ≡ Ok (record { context_id = context; addresses = texts }) = ap tp_state_delete_request content_is
    ∙ tp_state_delete_request_is_read (record { context_id = context; addresses = texts }) (record {
      context_id = context_is;
      addresses = are;
      fits = all_fit _ (delete_may context texts).each (subst (λ (l : List ℕ). length l < 2 ^ 64) content_is content_fits);
    }) in
    heard_back limit context frame (record { message_type = 11; correlation_id = number; content = content }) short
    (envelope_back 11 number content frame (omega arith) number_is is fits)
    ∙ ap (λ r. heard_delete context number (result_ok r)) read
    ∙ ap (λ same. asks same (record { kind = Delete; correlation = number; texts = texts }) (actions.Delete (map place_of texts))) (itself context)
    ∙ ap (λ t. Asks (record { kind = Delete; correlation = number; texts = t }) (actions.Delete (map place_of texts))) texts_are
    ∙ ap (λ p. Asks (record { kind = Delete; correlation = number; texts = map text_at places }) (actions.Delete p)) places_are

-- ---- entries

pub entry_may : (m : TpStateEntry) → AllMay (tp_state_entry_pieces m)
entry_may m = bytes_may 1 m.address (omega arith, omega arith) and bytes_may 2 m.body (omega arith, omega arith)

-- the items of a field can be written where all can
pub items_fit : {A : Type 0} {Is : A → Type 0} (pieces : A → List Piece) (field : ℕ)
    → ((item : A) → length (spelled (pieces item)) < 2 ^ 64 → Is item → AreWritable (pieces item))
    → (items : List A) → AllByRecursion Is items → AreWritable (items_pieces pieces field items) → AllByRecursion (λ item. AreWritable (pieces item)) items
items_fit pieces field fit [] are all = tt
items_fit pieces field fit (item ∷ items) are all = (fit item all.0.1 are.0, items_fit pieces field fit items are.1 all.1)

entries_are : (entries : List TpStateEntry) → AllByRecursion HasText entries → AllByRecursion (λ entry. AreWritable (tp_state_entry_pieces entry)) entries
    → AllByRecursion IsTpStateEntry entries
entries_are [] are fit = tt
entries_are (entry ∷ entries) are fit = (record { address = are.0; fits = fit.0 }, entries_are entries are.1 fit.1)

set_may : (context : List ℕ) (entries : List TpStateEntry) → AllMay (tp_state_set_request_pieces (record { context_id = context; entries = entries }))
set_may context entries = bytes_may 1 context (omega arith, omega arith) and items_may tp_state_entry_pieces 2 entries (omega arith, omega arith)

-- the second part of what can be written
pub second_fits : (xs ys : List Piece) → AreWritable (xs ++ ys) → AreWritable ys
second_fits [] ys all = all
second_fits (x ∷ xs) ys all = second_fits xs ys all.1

texts_of_entries : (entries : List Entry) → map (λ entry. entry.address) (map entry_at entries) ≡ map (λ entry. text_at entry.place) entries
texts_of_entries [] = refl
texts_of_entries (entry ∷ entries) = ap (λ (others : List (List ℕ)). text_at entry.place ∷ others) (texts_of_entries entries)

pub says_set : (context number : List ℕ) (entries : List Entry) (made : List TpStateEntry) (content frame : List ℕ) → IsText context → IsText number
    → AllByRecursion HasText made → made ≡ map entry_at entries → map entry_of made ≡ entries
    → content ≡ spelled (tp_state_set_request_pieces (record { context_id = context; entries = made })) → length content < 2 ^ 64
    → frame ≡ framed 9 number content → length frame < 2 ^ 64 → Says context number (actions.Set entries) frame
says_set context number entries made content frame context_is number_is are made_is entries_are_so content_is content_fits is fits limit short =
    let all = all_fit _ (set_may context made).each (subst (λ (l : List ℕ). length l < 2 ^ 64) content_is content_fits) in
    let each = items_fit tp_state_entry_pieces 2 (λ entry small text. all_fit (tp_state_entry_pieces entry) (entry_may entry).each small) made are
    (second_fits (bytes_pieces 1 context) (items_pieces tp_state_entry_pieces 2 made) all) in
    let read : tp_state_set_request content ≡ Ok (record { context_id = context; entries = made }) = ap tp_state_set_request content_is
    ∙ tp_state_set_request_is_read (record { context_id = context; entries = made }) (record {
      context_id = context_is;
      entries = entries_are made are each;
      fits = all;
    }) in
    let texts : map (λ entry. entry.address) made ≡ map (λ entry. text_at entry.place) entries = ap (map (λ (entry : TpStateEntry). entry.address)) made_is
    ∙ texts_of_entries entries in
    heard_back limit context frame (record { message_type = 9; correlation_id = number; content = content }) short
    (envelope_back 9 number content frame (omega arith) number_is is fits)
    ∙ ap (λ r. heard_set context number (result_ok r)) read
    ∙ ap (λ same. asks same (record { kind = Set; correlation = number; texts = map (λ entry. entry.address) made }) (actions.Set (map entry_of made))) (itself context)
    ∙ ap (λ t. Asks (record { kind = Set; correlation = number; texts = t }) (actions.Set (map entry_of made))) texts
    ∙ ap (λ p. Asks (record { kind = Set; correlation = number; texts = map (λ entry. text_at entry.place) entries }) (actions.Set p)) entries_are_so

-- ---- events

attribute_may : (m : Attribute) → AllMay (attribute_pieces m)
attribute_may m = bytes_may 1 m.key (omega arith, omega arith) and bytes_may 2 m.value (omega arith, omega arith)

attributes_are : (attributes : List Attribute) → AllByRecursion HasTexts attributes
    → AllByRecursion (λ attribute. AreWritable (attribute_pieces attribute)) attributes → AllByRecursion IsAttribute attributes
attributes_are [] are fit = tt
attributes_are (attribute ∷ attributes) are fit = (record { key = are.0.0; value = are.0.1; fits = fit.0 }, attributes_are attributes are.1 fit.1)

event_may : (m : Event) → AllMay (event_pieces m)
event_may m =
    (bytes_may 1 m.event_type (omega arith, omega arith)
    and items_may attribute_pieces 2 m.attributes (omega arith, omega arith))
    and bytes_may 3 m.body (omega arith, omega arith)

-- the first part of what can be written
pub first_fits : (xs ys : List Piece) → AreWritable (xs ++ ys) → AreWritable xs
first_fits [] ys all = tt
first_fits (x ∷ xs) ys all = (all.0, first_fits xs ys all.1)

event_is : (event : Event) → AreEventTexts event → AreWritable (event_pieces event) → IsEvent event
event_is event are all = record {
  event_type = are.event_type;
  attributes = attributes_are event.attributes are.attributes
      (items_fit attribute_pieces 2 (λ attribute small texts. all_fit (attribute_pieces attribute) (attribute_may attribute).each small) event.attributes are.attributes
      (second_fits (bytes_pieces 1 event.event_type) (items_pieces attribute_pieces 2 event.attributes)
      (first_fits (bytes_pieces 1 event.event_type ++ items_pieces attribute_pieces 2 event.attributes) (bytes_pieces 3 event.body) all)));
  fits = all;
}

-- what is embedded is no longer than all
pub embedded_small : (field : ℕ) (bytes : List ℕ) (none : Bool) → (length bytes == 0) ≡ none
    → AreWritable (if none then [] else item_pieces field bytes) → length bytes < 2 ^ 64
embedded_small field bytes true is all = grind (arith, nat_tests)
embedded_small field bytes false is all = all.0.1

add_may : (context : List ℕ) (event : Event) → AllMay (tp_event_add_request_pieces (record { context_id = context; event = event }))
add_may context event = bytes_may 1 context (omega arith, omega arith) and bytes_may 2 (spelled (event_pieces event)) (omega arith, omega arith)

pub says_event : (context number : List ℕ) (event : Event) (content frame : List ℕ) → IsText context → IsText number → AreEventTexts event
    → content ≡ spelled (tp_event_add_request_pieces (record { context_id = context; event = event })) → length content < 2 ^ 64
    → frame ≡ framed 15 number content → length frame < 2 ^ 64 → Says context number (actions.AddEvent event) frame
says_event context number event content frame context_is number_is are content_is content_fits is fits limit short =
    let all = all_fit _ (add_may context event).each (subst (λ (l : List ℕ). length l < 2 ^ 64) content_is content_fits) in
    let small = embedded_small 2 (spelled (event_pieces event)) (length (spelled (event_pieces event)) == 0) refl
    (second_fits (bytes_pieces 1 context) (bytes_pieces 2 (spelled (event_pieces event))) all) in
    let read : tp_event_add_request content ≡ Ok (record { context_id = context; event = event }) = ap tp_event_add_request content_is
    ∙ tp_event_add_request_is_read (record { context_id = context; event = event }) (record {
      context_id = context_is;
      event = event_is event are (all_fit (event_pieces event) (event_may event).each small);
      fits = all;
    }) in
    heard_back limit context frame (record { message_type = 15; correlation_id = number; content = content }) short
    (envelope_back 15 number content frame (omega arith) number_is is fits)
    ∙ ap (λ r. heard_event context number (result_ok r)) read
    ∙ ap (λ same. asks same (record { kind = AddEvent; correlation = number; texts = [] }) (actions.AddEvent event)) (itself context)

-- ---- ends and registrations

end_may : (status : ℕ) → status < 2 ^ 64 → AllMay (tp_process_response_pieces (record { status = status; message = [] }))
end_may status small = number_may 1 status (omega arith, omega arith) small and bytes_may 2 [] (omega arith, omega arith)

pub is_end : (context : List ℕ) (status : ℕ) (content frame : List ℕ) → IsText [] → IsText context → status < 2 ^ 32
    → content ≡ spelled (tp_process_response_pieces (record { status = status; message = [] })) → length content < 2 ^ 64
    → frame ≡ framed 6 context content → length frame < 2 ^ 64 → IsEnd context status frame
is_end context status content frame no_text context_is small content_is content_fits is fits limit short =
    let read : tp_process_response content ≡ Ok (record { status = status; message = [] }) = ap tp_process_response content_is
    ∙ tp_process_response_is_read (record { status = status; message = [] }) (record {
      status = small;
      message = no_text;
      fits = all_fit _ (end_may status (omega arith)).each (subst (λ (l : List ℕ). length l < 2 ^ 64) content_is content_fits);
    }) in
    heard_back limit context frame (record { message_type = 6; correlation_id = context; content = content }) short
    (envelope_back 6 context content frame (omega arith) context_is is fits)
    ∙ ap (λ r. finish (bytes_eq context context) (result_ok r)) read
    ∙ ap (λ same. finish same (Some (record { status = status; message = [] }))) (itself context)

flag_small : (flag : Bool) → (if flag then 1 else 0) < 2 ^ 64
flag_small true = omega arith
flag_small false = omega arith

register_may : (m : TpRegisterRequest) → m.protocol_version < 2 ^ 64 → AllMay (tp_register_request_pieces m)
register_may m small =
    (((bytes_may 1 m.family (omega arith, omega arith)
    and bytes_may 2 m.version (omega arith, omega arith))
    and texts_may 4 m.namespaces (omega arith, omega arith))
    and number_may 6 m.protocol_version (omega arith, omega arith) small)
    and number_may 9 (if m.more then 1 else 0) (omega arith, omega arith) (flag_small m.more)

pub is_registration : (number protocol : ℕ) (more : Bool) (offer : Offer) (content frame : List ℕ) → IsText (decimal number) → IsText offer.family
    → IsText offer.version → protocol < 2 ^ 32
    → content ≡ spelled (tp_register_request_pieces (registering protocol more offer)) → length content < 2 ^ 64
    → frame ≡ framed 1 (decimal number) content → length frame < 2 ^ 64 → IsRegistration number protocol more offer frame
is_registration number protocol more offer content frame number_is family_is version_is small content_is content_fits is fits limit short =
    let m = registering protocol more offer in
    let read : tp_register_request content ≡ Ok m = ap tp_register_request content_is
    ∙ tp_register_request_is_read m (record {
      family = family_is;
      version = version_is;
      namespaces = tt;
      protocol_version = small;
      fits = all_fit _ (register_may m (omega arith)).each (subst (λ (l : List ℕ). length l < 2 ^ 64) content_is content_fits);
    }) in
    registration_back limit frame (record { message_type = 1; correlation_id = decimal number; content = content }) short
    (envelope_back 1 (decimal number) content frame (omega arith) number_is is fits)
    ∙ rw read refl
