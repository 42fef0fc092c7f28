-- Texts that are read, written and compared by pairs of digits.
use Rattle.std.proofs.Common.{◌≡◌, ◌≢◌, ℕ, ◌+◌, ◌*◌, ◌<◌, ◌≤◌, ◌/◌, ◌%◌, Bool, true, false, ◌&&◌, List, [], ◌∷◌, ◌++◌, length, take, drop, slice_index, slice_set, nat_eq, refl, sym, ap, ◌∙◌, arith}
use Rattle.std.specs.List.{list_all, starts_with}
use Rattle.std.proofs.lemmas.Bool.{and_parts, and_right, eq-eqb, eqb-true, false_from_ne_true, le-leb}
use Rattle.std.proofs.lemmas.List.{append_assoc, drop_more, take_more_set}
use Rattle.std.proofs.lemmas.List.Elements.{All-take}
use Rattle.std.proofs.lemmas.List.Sums.{AllPass-from_list_all, list_all-from_AllPass}
use Rattle.hex.specs.Hex.{IsBytes, encode_lower, encode_with, lower_digits}
use Rattle.hex.proofs.Pairs.{drop-pair}
use Rattle.saw_address.specs.Texts.{is_hex_digit, is_prefix_text}
use Rattle.saw_address.proofs.Digits.{IsByteOf, byte_of_digits, digits_of_byte, list_all-encode_lower}
use Rattle.saw_address.proofs.Covering.{take-covers}

-- the digits of one list behind another
encode_lower-append : (xs ys : List ℕ) → encode_lower (xs ++ ys) ≡ encode_lower xs ++ encode_lower ys
unfolding encode_with
encode_lower-append [] ys = refl
encode_lower-append (x ∷ xs) ys = rw (encode_lower-append xs ys) refl

-- ---- reading

-- one pair more is read
pub spelled_more : (text out : List ℕ) (i v : ℕ) → 2 * i + 1 < length text → i < length out
    → encode_lower (v ∷ []) ≡ slice_index text (2 * i) ∷ slice_index text (2 * i + 1) ∷ []
    → encode_lower (take i out) ++ drop (2 * i) text ≡ text
    → encode_lower (take (i + 1) (slice_set out i v)) ++ drop (2 * (i + 1)) text ≡ text
spelled_more text out i v fits room pair inv =
    ap (λ front. encode_lower front ++ drop (2 * (i + 1)) text) (take_more_set out i v room)
    ∙ ap (λ front. front ++ drop (2 * (i + 1)) text) (encode_lower-append (take i out) (v ∷ []) ∙ ap (λ digits. encode_lower (take i out) ++ digits) pair)
    ∙ append_assoc (encode_lower (take i out)) (slice_index text (2 * i) ∷ slice_index text (2 * i + 1) ∷ []) (drop (2 * (i + 1)) text)
    ∙ ap (λ rest. encode_lower (take i out) ++ rest) (sym (drop-pair text i fits))
    ∙ inv

-- whether digits are left, by a pair and what is behind it
all-pair : (text : List ℕ) (i : ℕ) → 2 * i + 1 < length text
    → list_all is_hex_digit (drop (2 * i) text)
    ≡ (is_hex_digit (slice_index text (2 * i)) && (is_hex_digit (slice_index text (2 * i + 1)) && list_all is_hex_digit (drop (2 * (i + 1)) text)))
all-pair text i fits = ap (list_all is_hex_digit) (drop-pair text i fits)

-- a pair that is a byte's leaves the answer to what is behind it
pub decided_more : (text : List ℕ) (i v : ℕ) → 2 * i + 1 < length text → v < 256 → IsByteOf v (slice_index text (2 * i)) (slice_index text (2 * i + 1))
    → list_all is_hex_digit (drop (2 * i) text) ≡ list_all is_hex_digit text
    → list_all is_hex_digit (drop (2 * (i + 1)) text) ≡ list_all is_hex_digit text
decided_more text i v fits small pair inv =
    let digits = digits_of_byte v _ _ small ((pair v small).0 refl) in
    rw (all-pair text i fits, digits.0, digits.1) at inv

-- a pair that is no byte's decides
pub decided_not : (text : List ℕ) (i v : ℕ) → 2 * i + 1 < length text → 256 ≤ v → IsByteOf v (slice_index text (2 * i)) (slice_index text (2 * i + 1))
    → list_all is_hex_digit (drop (2 * i) text) ≡ list_all is_hex_digit text → list_all is_hex_digit text ≡ false
decided_not text i v fits large pair inv =
    false_from_ne_true (list_all is_hex_digit text) (λ all.
    let first = and_parts _ _ (sym (all-pair text i fits) ∙ inv ∙ all) in
    let second = and_parts _ _ first.1 in
    let byte = byte_of_digits _ _ first.0 second.0 in
    let same = (pair byte.0 byte.1).1 byte.2 in
    absurd (omega (arith, large, same, byte.1)))

-- ---- comparing

-- the digits of what is left, by a byte and what is behind it
digits-drop : (bytes : List ℕ) (i : ℕ) → i < length bytes
    → encode_lower (drop i bytes) ≡ encode_lower (slice_index bytes i ∷ []) ++ encode_lower (drop (i + 1) bytes)
digits-drop bytes i fits = ap encode_lower (drop_more bytes i 0 fits) ∙ encode_lower-append (slice_index bytes i ∷ []) (drop (i + 1) bytes)

-- one pair more is that of the byte
pub begins_more : (bytes text : List ℕ) (i : ℕ) → 2 * i + 1 < length text → i < length bytes
    → encode_lower (slice_index bytes i ∷ []) ≡ slice_index text (2 * i) ∷ slice_index text (2 * i + 1) ∷ []
    → starts_with nat_eq (encode_lower (drop i bytes)) (drop (2 * i) text)
    ≡ starts_with nat_eq (encode_lower (drop (i + 1) bytes)) (drop (2 * (i + 1)) text)
begins_more bytes text i fits room pair =
    let a = slice_index text (2 * i) in
    let b = slice_index text (2 * i + 1) in
    rw (digits-drop bytes i room, pair, drop-pair text i fits, eq-eqb a a refl, eq-eqb b b refl) refl

-- a pair that is another's decides
pub begins_not : (bytes text : List ℕ) (i v : ℕ) → 2 * i + 1 < length text → i < length bytes → slice_index bytes i < 256
    → IsByteOf v (slice_index text (2 * i)) (slice_index text (2 * i + 1)) → v ≢ slice_index bytes i
    → starts_with nat_eq (encode_lower (drop i bytes)) (drop (2 * i) text) ≡ false
unfolding encode_with
begins_not bytes text i v fits room small pair other =
    false_from_ne_true (starts_with nat_eq (encode_lower (drop i bytes)) (drop (2 * i) text)) (λ all.
    let x = slice_index bytes i in
    let a = slice_index text (2 * i) in
    let b = slice_index text (2 * i + 1) in
    let first = and_parts _ _ (rw (digits-drop bytes i room, drop-pair text i fits) at all) in
    let second = and_parts _ _ first.1 in
    let high = eqb-true a (slice_index lower_digits (x / 16)) first.0 in
    let low = eqb-true b (slice_index lower_digits (x % 16)) second.0 in
    other ((pair x small).1 (rw (high, low) refl)))

-- what bytes are written as begins with digits alone
digits_if_begins : (bytes text : List ℕ) → IsBytes bytes → starts_with nat_eq (encode_lower bytes) text ≡ true → list_all is_hex_digit text ≡ true
digits_if_begins bytes text all begins =
    let digits = AllPass-from_list_all is_hex_digit (encode_lower bytes) (list_all-encode_lower bytes all) in
    let some = list_all-from_AllPass is_hex_digit (take (length text) (encode_lower bytes)) (All-take (λ c. is_hex_digit c ≡ true) (length text) (encode_lower bytes) digits) in
    ap (list_all is_hex_digit) (sym (take-covers text (encode_lower bytes) begins)) ∙ some

-- the digits of 35 bytes begin with a text of whole pairs
pub begins_exactly : (bytes text : List ℕ) → IsBytes bytes → length text % 2 ≡ 0 → length text ≤ 70
    → starts_with nat_eq (encode_lower bytes) text ≡ (is_prefix_text text && starts_with nat_eq (encode_lower bytes) text)
begins_exactly bytes text all even fits = go (starts_with nat_eq (encode_lower bytes) text) refl
  where
    go : (b : Bool) → starts_with nat_eq (encode_lower bytes) text ≡ b → b ≡ (is_prefix_text text && b)
    go true begins = sym (rw (even, le-leb (length text) 70 fits, digits_if_begins bytes text all begins) refl)
    go false h = sym (and_right (is_prefix_text text) false refl)
