-- What is written for a field is read back as its value, and what is written for a message as that message.
use Rattle.std.proofs.Common.{◌≡◌, ℕ, zero, suc, ◌<◌, ◌%◌, ◌^◌, Bool, true, false, not, List, [], ◌∷◌, ◌++◌, length, map, Option, Some, None, Ok}
use Rattle.std.proofs.Common.{refl, sym, ap, arith}
use Rattle.std.specs.Prelude.{◌==◌, if◌then◌else◌}
use Rattle.std.specs.List.{cons_option, filter_map, flat_map, AllByRecursion}
use Rattle.std.specs.Str.{is_utf8}
use Rattle.std.proofs.lemmas.Bool.Decides.{nat_tests}
use Rattle.std.proofs.lemmas.List.{append-nil}
use Rattle.std.proofs.lemmas.List.Elements.{filter_map-append}
use Rattle.saw_wire.specs.Pieces.{Number, Chunk, Piece}
use Rattle.saw_wire.specs.Reading.{records_of, records_from}
use Rattle.saw_wire.specs.Writing.{spelled, AreWritable, number_pieces, bytes_pieces}
use Rattle.saw_wire.specs.Written.{texts_pieces, items_pieces}
use Rattle.saw_wire.specs.declared.fault.MessageFault.{MessageFault}
use Rattle.saw_wire.specs.MessageFaults.{◌<|>◌}
use Rattle.saw_wire.specs.MessageReading.{first_fault, pieces_of, fault_of, reading}
use Rattle.saw_wire.specs.Fields.{number_of, number_in, chunk_in, last_or, last_number, last_bytes, last_flag, last_small, all_bytes, all_items}
use Rattle.saw_wire.specs.Fields.{embedded, inner_pieces, inner_fault, text_fault_of, text_fault, item_fault}
use Rattle.saw_wire.proofs.ReadBack.{written_back}
use Rattle.saw_wire.proofs.FieldFaults.{none_left}

-- How to use it, for a message: `simp field_values` says what each field shows of what is written; by that
-- `.._fine` and `.._back` give that no field has a fault and that each has its value; `comes_back` joins both.

-- ---- the values of field f in what was written for field g

-- the values of a text or of bytes that were written
abbrev pub bytes_values : List ℕ → List (List ℕ)
bytes_values bytes = if length bytes == 0 then [] else bytes ∷ []

-- the values of a number that was written
abbrev pub number_values : ℕ → List ℕ
number_values n = if n == 0 then [] else n ∷ []

bytes_kept : (f g : ℕ) (bytes : List ℕ) (none same : Bool) → (g == f) ≡ same
    → filter_map (chunk_in f) (if none then [] else record { field = g; content = Chunk bytes } ∷ []) ≡ (if same then (if none then [] else bytes ∷ []) else [])
unfolding chunk_in
bytes_kept f g bytes true true is = refl
bytes_kept f g bytes true false is = refl
bytes_kept f g bytes false true is = rw is refl
bytes_kept f g bytes false false is = rw is refl

number_kept : (f g n : ℕ) (none same : Bool) → (g == f) ≡ same
    → filter_map (number_in f) (if none then [] else record { field = g; content = Number n } ∷ []) ≡ (if same then (if none then [] else n ∷ []) else [])
unfolding number_in
number_kept f g n true true is = refl
number_kept f g n true false is = refl
number_kept f g n false true is = rw is refl
number_kept f g n false false is = rw is refl

no_bytes : (f g n : ℕ) (none same : Bool) → (g == f) ≡ same → filter_map (chunk_in f) (if none then [] else record { field = g; content = Number n } ∷ []) ≡ []
unfolding chunk_in
no_bytes f g n true same is = refl
no_bytes f g n false true is = rw is refl
no_bytes f g n false false is = rw is refl

no_number : (same : Bool) (bytes : List ℕ) → number_of same (Chunk bytes) ≡ None
no_number true bytes = refl
no_number false bytes = refl

none_kept : (f g : ℕ) (bytes : List ℕ) (none : Bool) → filter_map (number_in f) (if none then [] else record { field = g; content = Chunk bytes } ∷ []) ≡ []
unfolding number_in
none_kept f g bytes true = refl
none_kept f g bytes false = rw (no_number (g == f) bytes) refl

texts_kept : (f g : ℕ) (same : Bool) → (g == f) ≡ same → (texts : List (List ℕ)) → filter_map (chunk_in f) (texts_pieces g texts) ≡ (if same then texts else [])
unfolding chunk_in
texts_kept f g true is [] = refl
texts_kept f g false is [] = refl
texts_kept f g true is (text ∷ texts) = rw is (ap (λ (others : List (List ℕ)). text ∷ others) (texts_kept f g true is texts))
texts_kept f g false is (text ∷ texts) = rw is (texts_kept f g false is texts)

items_kept : {A : Type 0} (pieces : A → List Piece) (f g : ℕ) (same : Bool) → (g == f) ≡ same → (items : List A)
    → filter_map (chunk_in f) (items_pieces pieces g items) ≡ (if same then map (λ item. spelled (pieces item)) items else [])
unfolding chunk_in
items_kept pieces f g true is [] = refl
items_kept pieces f g false is [] = refl
items_kept pieces f g true is (item ∷ items) = rw is (ap (λ (others : List (List ℕ)). spelled (pieces item) ∷ others) (items_kept pieces f g true is items))
items_kept pieces f g false is (item ∷ items) = rw is (items_kept pieces f g false is items)

pub chunks_of_bytes : (f g : ℕ) (bytes : List ℕ) → filter_map (chunk_in f) (bytes_pieces g bytes) ≡ (if g == f then bytes_values bytes else [])
chunks_of_bytes f g bytes = bytes_kept f g bytes (length bytes == 0) (g == f) refl

pub chunks_of_texts : (f g : ℕ) (texts : List (List ℕ)) → filter_map (chunk_in f) (texts_pieces g texts) ≡ (if g == f then texts else [])
chunks_of_texts f g texts = texts_kept f g (g == f) refl texts

pub chunks_of_items : {A : Type 0} (pieces : A → List Piece) (f g : ℕ) (items : List A)
    → filter_map (chunk_in f) (items_pieces pieces g items) ≡ (if g == f then map (λ item. spelled (pieces item)) items else [])
chunks_of_items pieces f g items = items_kept pieces f g (g == f) refl items

pub chunks_of_number : (f g n : ℕ) → filter_map (chunk_in f) (number_pieces g n) ≡ []
chunks_of_number f g n = no_bytes f g n (n == 0) (g == f) refl

pub numbers_of_number : (f g n : ℕ) → filter_map (number_in f) (number_pieces g n) ≡ (if g == f then number_values n else [])
numbers_of_number f g n = number_kept f g n (n == 0) (g == f) refl

pub numbers_of_bytes : (f g : ℕ) (bytes : List ℕ) → filter_map (number_in f) (bytes_pieces g bytes) ≡ []
numbers_of_bytes f g bytes = none_kept f g bytes (length bytes == 0)

pub numbers_of_texts : (f g : ℕ) (texts : List (List ℕ)) → filter_map (number_in f) (texts_pieces g texts) ≡ []
unfolding number_in
numbers_of_texts f g [] = refl
numbers_of_texts f g (text ∷ texts) = rw (no_number (g == f) text, numbers_of_texts f g texts) refl

pub numbers_of_items : {A : Type 0} (pieces : A → List Piece) (f g : ℕ) (items : List A) → filter_map (number_in f) (items_pieces pieces g items) ≡ []
unfolding number_in
numbers_of_items pieces f g [] = refl
numbers_of_items pieces f g (item ∷ items) = rw (no_number (g == f) (spelled (pieces item)), numbers_of_items pieces f g items) refl

-- what a field shows of all that was written for a message
pub ruleset field_values = (
  filter_map-append,
  chunks_of_bytes,
  chunks_of_texts,
  chunks_of_items,
  chunks_of_number,
  numbers_of_number,
  numbers_of_bytes,
  numbers_of_texts,
  numbers_of_items,
  append-nil,
)

-- ---- the value that a field's values give

not_zero : (n : ℕ) → 0 < n → (n == 0) ≡ false
not_zero n some = grind (arith, nat_tests)

pub last_bytes_value : (bytes : List ℕ) → last_or [] (bytes_values bytes) ≡ bytes
last_bytes_value [] = refl
last_bytes_value (x ∷ bytes) = let some = not_zero (length (x ∷ bytes)) (omega arith) in rw some refl

pub last_number_value : (n : ℕ) → last_or 0 (number_values n) ≡ n
last_number_value zero = refl
last_number_value (suc n) = let some = not_zero (suc n) (omega arith) in rw some refl

pub bytes_back : (field : ℕ) (pieces : List Piece) (bytes : List ℕ) → all_bytes field pieces ≡ bytes_values bytes → last_bytes field pieces ≡ bytes
bytes_back field pieces bytes shown = rw shown (last_bytes_value bytes)

pub number_back : (field : ℕ) (pieces : List Piece) (n : ℕ) → filter_map (number_in field) pieces ≡ number_values n → last_number field pieces ≡ n
number_back field pieces n shown = rw shown (last_number_value n)

pub small_back : (field : ℕ) (pieces : List Piece) (n : ℕ) → filter_map (number_in field) pieces ≡ number_values n → n < 2 ^ 32 → last_small field pieces ≡ n
small_back field pieces n shown fits = rw (number_back field pieces n shown) (omega arith)

flag_of : (flag : Bool) → not ((if flag then 1 else 0) == 0) ≡ flag
flag_of true = refl
flag_of false = refl

pub flag_back : (field : ℕ) (pieces : List Piece) (flag : Bool) → filter_map (number_in field) pieces ≡ number_values (if flag then 1 else 0)
    → last_flag field pieces ≡ flag
flag_back field pieces flag shown = rw (number_back field pieces (if flag then 1 else 0) shown) (flag_of flag)

-- ---- records without a fault

-- no record has this fault
pub record IsFine (fault : Piece → Option MessageFault) (pieces : List Piece) : Type 0 where
  pub none : first_fault fault pieces ≡ None

neither : (a b : Piece → Option MessageFault) (pieces : List Piece) → first_fault a pieces ≡ None → first_fault b pieces ≡ None
    → first_fault (λ piece. a piece <|> b piece) pieces ≡ None
unfolding first_fault
neither a b [] first second = refl
neither a b (piece ∷ pieces) first second =
    let p = none_left (a piece) (first_fault a pieces) first in
    let q = none_left (b piece) (first_fault b pieces) second in
    rw (p.0, q.0) (neither a b pieces p.1 q.1)

none_ever : (pieces : List Piece) → first_fault (λ piece. None) pieces ≡ None
unfolding first_fault
none_ever [] = refl
none_ever (piece ∷ pieces) = none_ever pieces

-- a message whose records have no faults at all
pub faultless : (pieces : List Piece) → IsFine (λ piece. None) pieces
faultless pieces = record { none = none_ever pieces }

infixr 9 ◌and◌
-- records without this fault and without that one
pub ◌and◌ : {a b : Piece → Option MessageFault} {pieces : List Piece} → IsFine a pieces → IsFine b pieces → IsFine (λ piece. a piece <|> b piece) pieces
first and second = record { none = neither _ _ _ first.none second.none }

one_fine : {X : Type 0} (fault : Option X → Option MessageFault) (shown : Option X) (values : List X) (others : Option MessageFault) → fault None ≡ None
    → AllByRecursion (λ value. fault (Some value) ≡ None) (cons_option shown values)
    → (AllByRecursion (λ value. fault (Some value) ≡ None) values → others ≡ None) → (fault shown <|> others) ≡ None
one_fine fault None values others none fine rest = rw none (rest fine)
one_fine fault (Some value) values others none fine rest = rw fine.0 (rest fine.1)

values_fine : {X : Type 0} (fault : Option X → Option MessageFault) (view : Piece → Option X) (pieces : List Piece) → fault None ≡ None
    → AllByRecursion (λ value. fault (Some value) ≡ None) (filter_map view pieces) → first_fault (λ piece. fault (view piece)) pieces ≡ None
unfolding first_fault
values_fine fault view [] none fine = refl
values_fine fault view (piece ∷ pieces) none fine = one_fine fault (view piece) (filter_map view pieces)
    (first_fault (λ p. fault (view p)) pieces) none fine (values_fine fault view pieces none)

text_known : (field : ℕ) (text : List ℕ) → is_utf8 text ≡ true → text_fault_of field (Some text) ≡ None
text_known field text is = rw is refl

texts_known : (field : ℕ) (texts : List (List ℕ)) → AllByRecursion (λ text. is_utf8 text ≡ true) texts
    → AllByRecursion (λ text. text_fault_of field (Some text) ≡ None) texts
texts_known field [] are = tt
texts_known field (text ∷ texts) are = (text_known field text are.0, texts_known field texts are.1)

if_some : (P : List ℕ → Type 0) (bytes : List ℕ) → P bytes → AllByRecursion P (bytes_values bytes)
if_some P bytes is = elim (length bytes == 0) as (λ none. AllByRecursion P (if none then [] else bytes ∷ [])) [ true ↦ tt | false ↦ (is, tt) ]

pub texts_fine : (field : ℕ) (pieces : List Piece) (texts : List (List ℕ)) → all_bytes field pieces ≡ texts
    → AllByRecursion (λ text. is_utf8 text ≡ true) texts → IsFine (text_fault field) pieces
unfolding text_fault
texts_fine field pieces texts shown are = record {
  none = values_fine (text_fault_of field) (chunk_in field) pieces refl
      (rw shown (texts_known field texts are));
}

pub text_fine : (field : ℕ) (pieces : List Piece) (text : List ℕ) → all_bytes field pieces ≡ bytes_values text → is_utf8 text ≡ true
    → IsFine (text_fault field) pieces
text_fine field pieces text shown is = texts_fine field pieces (bytes_values text) shown (if_some (λ bytes. is_utf8 bytes ≡ true) text is)

-- ---- messages

-- what is written for this message has no fault and says it
pub record ComesBack {A : Type 0} (of : List Piece → A) (fault : Piece → Option MessageFault) (pieces : A → List Piece) (m : A) : Type 0 where
  pub fine : fault_of fault (spelled (pieces m)) ≡ None
  pub said : of (pieces_of (spelled (pieces m))) ≡ m

-- by the records that are written for it
pub comes_back : {A : Type 0} (of : List Piece → A) (fault : Piece → Option MessageFault) (pieces : A → List Piece) (m : A) → AreWritable (pieces m)
    → IsFine fault (pieces m) → of (pieces m) ≡ m → ComesBack of fault pieces m
unfolding fault_of pieces_of
comes_back of fault pieces m fits fine said = let read = written_back (pieces m) fits in record { fine = rw read fine.none; said = rw read said }

pub is_read : {A : Type 0} {of : List Piece → A} {fault : Piece → Option MessageFault} {pieces : A → List Piece} {m : A} → ComesBack of fault pieces m
    → reading of fault (spelled (pieces m)) ≡ Ok m
is_read back = rw (back.fine, back.said) refl

-- ---- repeated messages, by the law of the one

items_said : {A : Type 0} {Is : A → Type 0} (of : List Piece → A) (fault : Piece → Option MessageFault) (pieces : A → List Piece)
    → ((m : A) → Is m → ComesBack of fault pieces m)
    → (items : List A) → AllByRecursion Is items → map (λ bytes. of (pieces_of bytes)) (map (λ item. spelled (pieces item)) items) ≡ items
items_said of fault pieces law [] are = refl
items_said {A = A} of fault pieces law (item ∷ items) are = rw ((law item are.0).said)
    (ap (λ (others : List A). item ∷ others) (items_said of fault pieces law items are.1))

items_known : {A : Type 0} {Is : A → Type 0} (of : List Piece → A) (fault : Piece → Option MessageFault) (pieces : A → List Piece)
    → ((m : A) → Is m → ComesBack of fault pieces m)
    → (items : List A) → AllByRecursion Is items → AllByRecursion (λ bytes. inner_fault fault (Some bytes) ≡ None) (map (λ item. spelled (pieces item)) items)
items_known of fault pieces law [] are = tt
items_known of fault pieces law (item ∷ items) are = ((law item are.0).fine, items_known of fault pieces law items are.1)

pub items_back : {A : Type 0} {Is : A → Type 0} {of : List Piece → A} {fault : Piece → Option MessageFault} {pieces : A → List Piece}
    → ((m : A) → Is m → ComesBack of fault pieces m)
    → (field : ℕ) (records : List Piece) (items : List A) → all_bytes field records ≡ map (λ item. spelled (pieces item)) items
    → AllByRecursion Is items → all_items of field records ≡ items
items_back {of = of} {fault = fault} {pieces = pieces} law field records items shown are = rw shown (items_said of fault pieces law items are)

pub items_fine : {A : Type 0} {Is : A → Type 0} {of : List Piece → A} {fault : Piece → Option MessageFault} {pieces : A → List Piece}
    → ((m : A) → Is m → ComesBack of fault pieces m)
    → (field : ℕ) (records : List Piece) (items : List A) → all_bytes field records ≡ map (λ item. spelled (pieces item)) items
    → AllByRecursion Is items → IsFine (item_fault fault field) records
unfolding item_fault
items_fine {of = of} {fault = fault} {pieces = pieces} law field records items shown are =
    record { none = values_fine (inner_fault fault) (chunk_in field) records refl (rw shown (items_known of fault pieces law items are)) }

-- ---- a message within a message

inner_append : (shown : Option (List ℕ)) (others : List (List ℕ))
    → inner_pieces shown ++ flat_map pieces_of others ≡ flat_map pieces_of (cons_option shown others)
inner_append None others = refl
inner_append (Some bytes) others = refl

embedded_is : (field : ℕ) (records : List Piece) → embedded field records ≡ flat_map pieces_of (all_bytes field records)
embedded_is field [] = refl
embedded_is field (one ∷ records) = rw (embedded_is field records) (inner_append (chunk_in field one) (all_bytes field records))

said_by_none : pieces_of [] ≡ []
unfolding pieces_of records_of records_from
said_by_none = refl

said_by_values : (bytes : List ℕ) → flat_map pieces_of (bytes_values bytes) ≡ pieces_of bytes
said_by_values [] = sym said_by_none
said_by_values (x ∷ bytes) = let some = not_zero (length (x ∷ bytes)) (omega arith) in rw some (append-nil (pieces_of (x ∷ bytes)))

-- the records of an embedded message that was written
pub embedded_back : (field : ℕ) (records inner : List Piece) → all_bytes field records ≡ bytes_values (spelled inner) → AreWritable inner
    → embedded field records ≡ inner
unfolding pieces_of
embedded_back field records inner shown fits = rw (embedded_is field records, shown, said_by_values (spelled inner), written_back inner fits) refl

pub message_back : {A : Type 0} {of : List Piece → A} {fault : Piece → Option MessageFault} {pieces : A → List Piece} (field : ℕ) (records : List Piece) (m : A)
    → all_bytes field records ≡ bytes_values (spelled (pieces m)) → ComesBack of fault pieces m → of (embedded field records) ≡ m
message_back {pieces = pieces} field records m shown back = rw (embedded_is field records, shown, said_by_values (spelled (pieces m))) back.said

pub message_fine : {A : Type 0} {of : List Piece → A} {fault : Piece → Option MessageFault} {pieces : A → List Piece} (field : ℕ) (records : List Piece) (m : A)
    → all_bytes field records ≡ bytes_values (spelled (pieces m)) → ComesBack of fault pieces m → IsFine (item_fault fault field) records
unfolding item_fault
message_fine {fault = fault} {pieces = pieces} field records m shown back =
    record {
      none = values_fine (inner_fault fault) (chunk_in field) records refl
          (rw shown (if_some (λ bytes. inner_fault fault (Some bytes) ≡ None) (spelled (pieces m)) back.fine));
    }
