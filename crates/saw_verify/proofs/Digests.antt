-- Digests as hex digits.
use Rattle.std.proofs.Common.{◌≡◌, ◌==◌, ℕ, List, length, true, arith}
use Rattle.std.specs.List.{list_all}
use Rattle.std.proofs.lemmas.Bool.{and_from, eq-eqb}
use Rattle.hex.specs.Hex.{IsBytes, encode_lower, lower_digits}
use Rattle.hex.proofs.HexLemmas.{length-encode_with}
use Rattle.saw_address.proofs.Digits.{list_all-encode_lower}
use Rattle.saw_address.specs.Texts.{is_hex_digit, is_hex_text}

-- 64 bytes are written by 128 hex digits
pub is_hex_text-digest : (digest text : List ℕ) → IsBytes digest → length digest ≡ 64 → text ≡ encode_lower digest → is_hex_text 128 text ≡ true
is_hex_text-digest digest text bytes size is =
    let long = length-encode_with lower_digits digest in
    rw is (and_from (length (encode_lower digest) == 128) (list_all is_hex_digit (encode_lower digest))
    (eq-eqb (length (encode_lower digest)) 128 (omega (arith, size, long))) (list_all-encode_lower digest bytes))
