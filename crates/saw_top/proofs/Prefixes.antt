-- The prefix that a text stands for.
use Rattle.std.proofs.Common.{◌≡◌, ℕ, zero, suc, ◌*◌, ◌/◌, ◌%◌, true, List, [], ◌∷◌, slice_index, Option, Some, None, unwrap_or, option_map, Bor, inl, inr}
use Rattle.std.proofs.Common.{refl, sym, ap, ◌∙◌, arith}
use Rattle.std.specs.Prelude.{◌==◌, ◌&&◌, ◌↔◌, Bool, false, length, nat_le, IfSome, IsSome, IsTrue}
use Rattle.std.specs.List.{list_all}
use Rattle.std.proofs.lemmas.Bool.{and_parts, cases_lt, eqb-true, true≢false}
use Rattle.std.proofs.lemmas.List.{get_or_past}
use Rattle.hex.specs.Hex.{IsBytes, decode_of, encode_lower, encode_with, lower_digits}
use Rattle.hex.proofs.HexLemmas.{decode_of-encode_lower}
use Rattle.saw_address.specs.Texts.{is_hex_digit, is_hex_text, is_prefix_text}
use Rattle.saw_top.specs.Command.{bytes_in, hex_in}

-- what is written with digits are bytes: the table has none for more
IsBytes-written : (xs : List ℕ) → list_all is_hex_digit (encode_lower xs) ≡ true → IsBytes xs
unfolding encode_with
IsBytes-written [] h i = omega arith
IsBytes-written (b ∷ rest) h zero =
    elim (cases_lt b 256) [
      | inl small ↦ small
      | inr large ↦
          let past : slice_index lower_digits (b / 16) ≡ 0 = get_or_past lower_digits (b / 16) 0 (omega arith) in
          absurd (true≢false (sym (rw past at (and_parts (is_hex_digit (slice_index lower_digits (b / 16))) _ h).0)))
    ]
IsBytes-written (b ∷ rest) h (suc i) =
    IsBytes-written rest (and_parts (is_hex_digit (slice_index lower_digits (b % 16))) _
    (and_parts (is_hex_digit (slice_index lower_digits (b / 16))) _ h).1).1 i

-- the bytes that were read are those that the text stands for
decoded_digits : (bytes text : List ℕ) → encode_lower bytes ≡ text → list_all is_hex_digit text ≡ true → bytes_in (decode_of text) ≡ bytes
decoded_digits bytes text e digits = rw (← e, decode_of-encode_lower bytes (IsBytes-written bytes (rw (← e) at digits))) refl

pub decoded : (bytes text : List ℕ) → encode_lower bytes ≡ text → is_prefix_text text ≡ true → bytes_in (decode_of text) ≡ bytes
decoded bytes text e h = decoded_digits bytes text e (and_parts (length text % 2 == 0 && nat_le (length text) 70) (list_all is_hex_digit text) h).1

pub hex_decoded : (count : ℕ) (bytes text : List ℕ) → encode_lower bytes ≡ text → is_hex_text count text ≡ true → hex_in count text ≡ Some bytes
hex_decoded count bytes text e h =
    rw h (ap Some (decoded_digits bytes text e (and_parts (length text == count) (list_all is_hex_digit text) h).1))

pub digits_of : (count : ℕ) (text : List ℕ) → is_hex_text count text ≡ true → length text ≡ count
digits_of count text h = eqb-true (length text) count (and_parts (length text == count) (list_all is_hex_digit text) h).0

-- as many bytes as pairs of digits
length-pairs : (bytes : List ℕ) → length (encode_lower bytes) ≡ 2 * length bytes
unfolding encode_with
length-pairs [] = refl
length-pairs (byte ∷ bytes) = let more = length-pairs bytes in omega (arith, more)

pub length-decoded : (bytes text : List ℕ) → encode_lower bytes ≡ text → length text ≡ 2 * length bytes
length-decoded bytes text e = sym (ap length e) ∙ length-pairs bytes

-- an address that was read
pub address_read : (text : List ℕ) (found : Option (List ℕ)) → IsSome found ↔ IsTrue (is_hex_text 70 text)
    → IfSome found (λ at. encode_lower at ≡ text) → found ≡ hex_in 70 text
address_read text None valid value = split (is_hex_text 70 text) refl
  where
    split : (b : Bool) → is_hex_text 70 text ≡ b → None ≡ hex_in 70 text
    split true fine = absurd (cc (valid.1 fine))
    split false bad = rw bad refl
address_read text (Some at) valid value = sym (hex_decoded 70 at text value (valid.0 refl))

-- without a text the empty one was read
pub text_or : (slot : Option (Bor (List ℕ))) (without found : Bor (List ℕ)) → found ≡ unwrap_or slot without → without.now ≡ []
    → unwrap_or (option_map (λ text. text.now) slot) [] ≡ found.now
text_or None without found is empty = sym (ap (λ text. text.now) is ∙ empty)
text_or (Some text) without found is empty = sym (ap (λ text. text.now) is)
