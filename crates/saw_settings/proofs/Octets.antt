-- What is written for messages of texts and numbers is bytes, each below 256.
use Rattle.std.proofs.Common.{◌≡◌, ℕ, zero, suc, ◌+◌, ◌*◌, ◌/◌, ◌%◌, ◌<◌, ◌≤◌, Bool, true, false, cond, ltb, List, [], ◌∷◌, ◌++◌, length, slice_index}
use Rattle.std.proofs.Common.{refl, subst, arith, encode_utf8, lit<}
use Rattle.std.specs.Prelude.{◌==◌, if◌then◌else◌}
use Rattle.std.specs.Str.{encode_utf8_all, is_utf8}
use Rattle.std.specs.List.{AllByRecursion}
use Rattle.std.specs.Char.{encode_utf8}
use Rattle.std.proofs.lemmas.Bool.{and_parts, ltb-true}
use Rattle.std.proofs.lemmas.Str.{IsUtf8-from_is_utf8}
use lib.Utf8.{scalar, scalars, scalar_cases}
use Rattle.saw_wire.specs.Pieces.{Content, Number, Fixed, Chunk, Piece}
use Rattle.saw_wire.specs.Writing.{varint_in, varint, content_bytes, spelled, bytes_pieces, number_pieces}
use Rattle.saw_wire.specs.Written.{items_pieces}

abbrev pub AreBytes : List ℕ → Type 0
AreBytes bytes = AllByRecursion (λ b. b < 256) bytes

pub all_append : {X : Type 0} (P : X → Type 0) (xs ys : List X) → AllByRecursion P xs → AllByRecursion P ys → AllByRecursion P (xs ++ ys)
all_append P [] ys first second = second
all_append P (x ∷ xs) ys first second = (first.0, all_append P xs ys first.1 second)

-- by index
pub byte_at : (bytes : List ℕ) → AreBytes bytes → (i : ℕ) → slice_index bytes i < 256
byte_at [] all i = lit< tt
byte_at (x ∷ bytes) all zero = all.0
byte_at (x ∷ bytes) all (suc i) = byte_at bytes all.1 i

-- ---- texts

character_by : (a b d : Bool) (c : ℕ) → ltb c 128 ≡ a → ltb c 2048 ≡ b → ltb c 65536 ≡ d → c < 1114112
    → AreBytes (cond a (c ∷ []) (cond b ((192 + c / 64) ∷ (128 + c % 64) ∷ [])
    (cond d ((224 + c / 4096) ∷ (128 + c / 64 % 64) ∷ (128 + c % 64) ∷ [])
    ((240 + c / 262144) ∷ (128 + c / 4096 % 64) ∷ (128 + c / 64 % 64) ∷ (128 + c % 64) ∷ []))))
character_by true b d c one two three lt = let few = ltb-true c 128 one in (omega arith, tt)
character_by false true d c one two three lt = let few = ltb-true c 2048 two in (omega arith, (omega arith, tt))
character_by false false true c one two three lt = let few = ltb-true c 65536 three in (omega arith, (omega arith, (omega arith, tt)))
character_by false false false c one two three lt = (omega arith, (omega arith, (omega arith, (omega arith, tt))))

character_bytes : (c : ℕ) → scalar c ≡ true → AreBytes (encode_utf8 c)
unfolding encode_utf8
character_bytes c is = let cases = scalar_cases c is in character_by (ltb c 128) (ltb c 2048) (ltb c 65536) c refl refl refl (omega arith)

characters_bytes : (cs : List ℕ) → scalars cs ≡ true → AreBytes (encode_utf8_all cs)
characters_bytes [] are = tt
characters_bytes (c ∷ cs) are = let parts = and_parts (scalar c) (scalars cs) are in
    all_append (λ b. b < 256) (encode_utf8 c) (encode_utf8_all cs) (character_bytes c parts.0) (characters_bytes cs parts.1)

pub text_bytes : (text : List ℕ) → is_utf8 text ≡ true → AreBytes text
text_bytes text is = let of = IsUtf8-from_is_utf8 text is in subst AreBytes of.1.1 (characters_bytes of.0 of.1.0)

-- ---- records

varint_by : (b : Bool) (room n : ℕ) → ltb n 128 ≡ b → AreBytes (varint_in room (n / 128))
    → AreBytes (cond b (n ∷ []) ((n % 128 + 128) ∷ varint_in room (n / 128)))
varint_by true room n is rest = let few = ltb-true n 128 is in (omega arith, tt)
varint_by false room n is rest = (omega arith, rest)

varint_in_bytes : (room n : ℕ) → n ≤ room → AreBytes (varint_in room n)
unfolding varint_in
varint_in_bytes zero n fits = (omega arith, tt)
varint_in_bytes (suc room) n fits = varint_by (ltb n 128) room n refl (varint_in_bytes room (n / 128) (omega arith))

varint_bytes : (n : ℕ) → AreBytes (varint n)
unfolding varint
varint_bytes n = varint_in_bytes n n (omega arith)

abbrev HasBytes : Content → Type 0
HasBytes (Number n) = Unit {0}
HasBytes (Fixed bytes) = AreBytes bytes
HasBytes (Chunk bytes) = AreBytes bytes

abbrev AllHave : List Piece → Type 0
AllHave pieces = AllByRecursion (λ piece. HasBytes piece.content) pieces

-- the content of each record is bytes
pub record HaveBytes (pieces : List Piece) : Type 0 where
  pub all : AllHave pieces

both : (xs ys : List ℕ) → AreBytes xs → AreBytes ys → AreBytes (xs ++ ys)
both xs ys = all_append (λ b. b < 256) xs ys

content_is : (field : ℕ) (content : Content) → HasBytes content → AreBytes (content_bytes field content)
content_is field (Number n) has = both (varint (field * 8)) (varint n) (varint_bytes (field * 8)) (varint_bytes n)
content_is field (Fixed bytes) has = both (varint _) bytes (varint_bytes _) has
content_is field (Chunk bytes) has =
    both (varint (field * 8 + 2) ++ varint (length bytes)) bytes
    (both (varint (field * 8 + 2)) (varint (length bytes)) (varint_bytes (field * 8 + 2)) (varint_bytes (length bytes))) has

spelled_all : (pieces : List Piece) → AllHave pieces → AreBytes (spelled pieces)
spelled_all [] have = tt
spelled_all (piece ∷ pieces) have = both (content_bytes piece.field piece.content) (spelled pieces) (content_is piece.field piece.content have.0)
    (spelled_all pieces have.1)

pub spelled_bytes : (pieces : List Piece) → HaveBytes pieces → AreBytes (spelled pieces)
spelled_bytes pieces have = spelled_all pieces have.all

-- ---- fields

pub bytes_field : (field : ℕ) (bytes : List ℕ) → AreBytes bytes → HaveBytes (bytes_pieces field bytes)
bytes_field field bytes are = record {
  all = elim (length bytes == 0) as (λ none. AllHave (if none then [] else record { field = field; content = Chunk bytes } ∷ []))
      [ true ↦ tt | false ↦ (are, tt) ];
}

pub text_field : (field : ℕ) (text : List ℕ) → is_utf8 text ≡ true → HaveBytes (bytes_pieces field text)
text_field field text is = bytes_field field text (text_bytes text is)

pub number_field : (field n : ℕ) → HaveBytes (number_pieces field n)
number_field field n = record {
  all = elim (n == 0) as (λ none. AllHave (if none then [] else record { field = field; content = Number n } ∷ [])) [ true ↦ tt | false ↦ (tt, tt) ];
}

items_all : {A : Type 0} {Is : A → Type 0} (pieces : A → List Piece) → ((m : A) → Is m → HaveBytes (pieces m)) → (field : ℕ) (items : List A)
    → AllByRecursion Is items
    → AllHave (items_pieces pieces field items)
items_all pieces law field [] are = tt
items_all pieces law field (item ∷ items) are = (spelled_bytes (pieces item) (law item are.0), items_all pieces law field items are.1)

pub items_field : {A : Type 0} {Is : A → Type 0} (pieces : A → List Piece) → ((m : A) → Is m → HaveBytes (pieces m)) → (field : ℕ) (items : List A)
    → AllByRecursion Is items → HaveBytes (items_pieces pieces field items)
items_field pieces law field items are = record { all = items_all pieces law field items are }

infixl 9 ◌with◌
-- the records of a field, and then those of a further one
pub ◌with◌ : {front back : List Piece} → HaveBytes front → HaveBytes back → HaveBytes (front ++ back)
first with second = record { all = all_append (λ piece. HasBytes piece.content) _ _ first.all second.all }
