-- Texts of hex digits are UTF-8.
use Rattle.std.proofs.Common.{◌≡◌, ◌<◌, ℕ, zero, suc, true, ◌==◌, List, [], ◌∷◌, length, arith}
use Rattle.std.specs.List.{list_all}
use Rattle.std.specs.Str.{IsAscii}
use Rattle.std.proofs.lemmas.Bool.{and_parts, eqb-true}
use Rattle.std.proofs.lemmas.Bool.Decides.{nat_tests}
use Rattle.std.proofs.lemmas.Str.{IsUtf8-from_ascii, is_utf8-from_IsUtf8}
use Rattle.hex.specs.Hex.{encode_lower}
use Rattle.saw_address.proofs.Digits.{list_all-encode_lower}
use Rattle.saw_address.specs.Texts.{is_hex_digit, is_hex_text}
use Rattle.saw_messages.specs.ReadBack.{IsText}
use Rattle.saw_node.proofs.Encodings.{bytes_from_all}
use Rattle.saw_node.specs.Hashes.{IsHash}

digit_small : (c : ℕ) → is_hex_digit c ≡ true → c < 128
digit_small c h = grind (arith, nat_tests)

digits_small : (digits : List ℕ) → list_all is_hex_digit digits ≡ true → IsAscii digits
digits_small [] h i = omega arith
digits_small (c ∷ digits) h zero = digit_small c (and_parts (is_hex_digit c) (list_all is_hex_digit digits) h).0
digits_small (c ∷ digits) h (suc i) = digits_small digits (and_parts (is_hex_digit c) (list_all is_hex_digit digits) h).1 i

digits_text : (digits : List ℕ) → list_all is_hex_digit digits ≡ true → IsText digits
digits_text digits h = is_utf8-from_IsUtf8 digits (IsUtf8-from_ascii digits (digits_small digits h))

pub hex_text : (count : ℕ) (text : List ℕ) → is_hex_text count text ≡ true → IsText text
hex_text count text h = digits_text text (and_parts (length text == count) (list_all is_hex_digit text) h).1

pub length-hex_text : (count : ℕ) (text : List ℕ) → is_hex_text count text ≡ true → length text ≡ count
length-hex_text count text h = eqb-true (length text) count (and_parts (length text == count) (list_all is_hex_digit text) h).0

-- a hash as it is written
pub hash_text : (root : List ℕ) → IsHash root → IsText (encode_lower root)
hash_text root is = digits_text (encode_lower root) (list_all-encode_lower root (bytes_from_all root is.small))
