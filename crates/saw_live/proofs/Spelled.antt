-- Digits, bytes and words.
use Rattle.std.proofs.Common.{◌≡◌, ℕ, zero, suc, ◌+◌, ◌*◌, ◌<◌, true, List, [], ◌∷◌, ◌++◌, length, take, drop, refl, sym, ap, ap₂, ◌∙◌, arith, Ok}
use Rattle.std.specs.Int.{to_be_bytes, w64}
use Rattle.std.specs.List.{list_all}
use Rattle.std.proofs.lemmas.Bool.{and_parts, eqb-true}
use Rattle.std.proofs.lemmas.List.{take-append-drop}
use Rattle.hex.specs.Hex.{IsBytes, decode_of, decode_sized, encode_lower, encode_with}
use Rattle.hex.proofs.HexLemmas.{decode_of-encode_lower, decode_sized-encode_lower, decode_sized-twice}
use Rattle.saw_address.specs.Texts.{is_address_text, is_hex_digit, is_hex_text}
use Rattle.saw_address.proofs.Digits.{byte_of_digits}
use Rattle.saw_live.specs.Serving.{bytes_in}
use Rattle.saw_live.specs.Words.{bytes_of}

-- ---- digits

IsBytes-cons : (byte : ℕ) (bytes : List ℕ) → byte < 256 → IsBytes bytes → IsBytes (byte ∷ bytes)
IsBytes-cons byte bytes small all zero = small
IsBytes-cons byte bytes small all (suc i) = all i

-- digits are those of bytes
bytes_of_digits : (n : ℕ) (text : List ℕ) → length text ≡ 2 * n → list_all is_hex_digit text ≡ true
    → (bytes : List ℕ) × IsBytes bytes × (encode_lower bytes ≡ text) × (length bytes ≡ n)
unfolding encode_with
bytes_of_digits zero [] size all = ([], (λ i. omega arith), refl, refl)
bytes_of_digits zero (c ∷ text) size all = absurd (omega (arith, size))
bytes_of_digits (suc n) [] size all = absurd (omega (arith, size))
bytes_of_digits (suc n) (c ∷ []) size all = absurd (omega (arith, size))
bytes_of_digits (suc n) (high ∷ low ∷ text) size all =
    let first = and_parts (is_hex_digit high) _ all in
    let second = and_parts (is_hex_digit low) (list_all is_hex_digit text) first.1 in
    let byte = byte_of_digits high low first.0 second.0 in
    let rest = bytes_of_digits n text (omega (arith, size)) second.1 in (
      byte.0 ∷ rest.0,
      IsBytes-cons byte.0 rest.0 byte.1 rest.1,
      ap₂ (λ pair others. pair ++ others) byte.2 rest.2,
      ap suc rest.3,
    )

-- what is read of an id's digits is written as these
pub id_is_read : (id out : List ℕ) → is_hex_text 128 id ≡ true → ((bytes : List ℕ) → decode_sized id 64 ≡ Ok bytes → out ≡ bytes)
    → encode_lower out ≡ id
id_is_read id out is read =
    let parts = and_parts _ (list_all is_hex_digit id) is in
    let found = bytes_of_digits 64 id (eqb-true (length id) 128 parts.0) parts.1 in
    let decoded : decode_sized id 64 ≡ Ok found.0 =
    ap (λ text. decode_sized text 64) (sym found.2) ∙ decode_sized-encode_lower found.0 64 found.3 found.1 in
    ap encode_lower (read found.0 decoded) ∙ found.2

-- ---- words

nothing_of : (n : ℕ) → [] ≡ drop {A = ℕ} n []
nothing_of zero = refl
nothing_of (suc n) = refl

drop-drop : (n m : ℕ) (xs : List ℕ) → drop n (drop m xs) ≡ drop (m + n) xs
drop-drop n zero xs = let none : n ≡ 0 + n = omega arith in ap (λ k. drop k xs) none
drop-drop zero (suc m) [] = nothing_of (suc m + 0)
drop-drop (suc n) (suc m) [] = nothing_of (suc m + suc n)
drop-drop n (suc m) (x ∷ xs) = let more : suc (m + n) ≡ suc m + n = omega arith in drop-drop n m xs ∙ ap (λ k. drop k (x ∷ xs)) more

-- a part and what is behind it
part : (m : ℕ) (xs : List ℕ) → take 8 (drop m xs) ++ drop (m + 8) xs ≡ drop m xs
part m xs = ap (λ rest. take 8 (drop m xs) ++ rest) (sym (drop-drop 8 m xs)) ∙ take-append-drop 8 (drop m xs)

nothing_left : (n : ℕ) (xs : List ℕ) → length xs ≡ n → drop n xs ≡ []
nothing_left zero [] size = refl
nothing_left zero (x ∷ xs) size = absurd (omega (arith, size))
nothing_left (suc n) [] size = refl
nothing_left (suc n) (x ∷ xs) size = nothing_left n xs (omega (arith, size))

-- the bytes of words are these
pub record Spell (words bytes : List ℕ) : Type 0 where
  pub is : bytes_of words ≡ bytes

-- words of parts one after another
pub word_more : (m : ℕ) {word : ℕ} {others : List ℕ} (xs : List ℕ) → to_be_bytes w64 word ≡ take 8 (drop m xs) → Spell others (drop (m + 8) xs)
    → Spell (word ∷ others) (drop m xs)
word_more m xs first later = record { is = ap₂ (λ bytes rest. bytes ++ rest) first later.is ∙ part m xs }

pub no_words : (n : ℕ) (xs : List ℕ) → length xs ≡ n → Spell [] (drop n xs)
no_words n xs size = record { is = sym (nothing_left n xs size) }

-- what is read of an address's digits is what they stand for
pub question_is_read : (question out : List ℕ) → is_address_text question ≡ true → ((bytes : List ℕ) → decode_sized question 35 ≡ Ok bytes → out ≡ bytes)
    → out ≡ bytes_in (decode_of question)
question_is_read question out is read =
    let parts = and_parts _ (list_all is_hex_digit question) is in
    let size : length question ≡ 2 * 35 = eqb-true (length question) 70 parts.0 in
    let found = bytes_of_digits 35 question size parts.1 in
    let decoded : decode_of question ≡ Ok found.0 = ap decode_of (sym found.2) ∙ decode_of-encode_lower found.0 found.1 in
    read found.0 (decode_sized-twice question 35 size ∙ decoded) ∙ ap bytes_in (sym decoded)
