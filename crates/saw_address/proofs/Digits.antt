-- Bytes and their hex digits.
use Rattle.std.proofs.Common.{◌≡◌, ℕ, zero, suc, ◌+◌, ◌*◌, ◌/◌, ◌%◌, ◌<◌, ◌==◌, Bool, true, ◌&&◌, ◌||◌, not, nat_lt, ◌⊎◌, inl, inr, sym, List, [], ◌∷◌, length}
use Rattle.std.proofs.Common.{slice_index, unwrap_or, refl, ap, ◌∙◌, arith}
use Rattle.std.specs.Prelude.{◌↔◌}
use Rattle.std.specs.List.{list_all}
use Rattle.std.proofs.lemmas.Bool.{agree_below, agree_below_at, and_from, and_parts, eq-eqb, eqb-true, lt-ltb, ltb-true, or_cases}
use Rattle.hex.specs.Hex.{IsBytes, decode_of, encode_lower, encode_with, hex_digit_value, lower_digits}
use Rattle.hex.proofs.HexLemmas.{decode_of-encode_lower, decode_of-same, length-encode_with}
use Rattle.saw_address.specs.Maps.{is_address}
use Rattle.saw_address.specs.Texts.{is_address_text, is_hex_digit}

-- ---- bytes

IsBytes-from_list_all : (xs : List ℕ) → list_all (λ b. nat_lt b 256) xs ≡ true → IsBytes xs
IsBytes-from_list_all [] h i = omega arith
IsBytes-from_list_all (x ∷ xs) h zero = ltb-true x 256 (and_parts (nat_lt x 256) (list_all (λ b. nat_lt b 256) xs) h).0
IsBytes-from_list_all (x ∷ xs) h (suc i) = IsBytes-from_list_all xs (and_parts (nat_lt x 256) (list_all (λ b. nat_lt b 256) xs) h).1 i

list_all-from_IsBytes : (xs : List ℕ) → IsBytes xs → list_all (λ b. nat_lt b 256) xs ≡ true
list_all-from_IsBytes [] h = refl
list_all-from_IsBytes (x ∷ xs) h = and_from (nat_lt x 256) (list_all (λ b. nat_lt b 256) xs) (lt-ltb x 256 (h 0)) (list_all-from_IsBytes xs (λ i. h (suc i)))

-- 35 bytes are an address
pub is_address-from : (xs : List ℕ) → length xs ≡ 35 → IsBytes xs → is_address xs ≡ true
is_address-from xs len bytes = and_from (length xs == 35) (list_all (λ b. nat_lt b 256) xs) (eq-eqb (length xs) 35 len) (list_all-from_IsBytes xs bytes)

-- an address has 35 bytes
pub length-is_address : (xs : List ℕ) → is_address xs ≡ true → length xs ≡ 35
length-is_address xs h = eqb-true (length xs) 35 (and_parts (length xs == 35) (list_all (λ b. nat_lt b 256) xs) h).0

pub IsBytes-is_address : (xs : List ℕ) → is_address xs ≡ true → IsBytes xs
IsBytes-is_address xs h = IsBytes-from_list_all xs (and_parts (length xs == 35) (list_all (λ b. nat_lt b 256) xs) h).1

-- ---- from bytes to digits

-- the table has lower case digits alone
is_hex_digit-lower : (d : ℕ) → d < 16 → is_hex_digit (slice_index lower_digits d) ≡ true
is_hex_digit-lower d h = agree_below_at (λ k. is_hex_digit (slice_index lower_digits k)) (λ k. true) 16 d refl h

-- the digits by sums
pub digit_by_sum : (v : ℕ) → v < 16 → 48 + v + 39 * ((v + 6) / 16) ≡ slice_index lower_digits v
digit_by_sum v h =
    eqb-true (48 + v + 39 * ((v + 6) / 16)) (slice_index lower_digits v)
    (agree_below_at (λ k. 48 + k + 39 * ((k + 6) / 16) == slice_index lower_digits k) (λ k. true) 16 v refl h)

-- bytes are written in lower case digits
pub list_all-encode_lower : (xs : List ℕ) → IsBytes xs → list_all is_hex_digit (encode_lower xs) ≡ true
unfolding encode_with
list_all-encode_lower [] h = refl
list_all-encode_lower (b ∷ rest) h =
    let small : b < 256 = h 0 in
    let high : b / 16 < 16 = omega arith in
    let low : b % 16 < 16 = omega arith in
    rw (is_hex_digit-lower (b / 16) high, is_hex_digit-lower (b % 16) low) (list_all-encode_lower rest (λ i. h (suc i)))

-- an address is written as an address text
pub is_address_text-encode_lower : (address : List ℕ) → is_address address ≡ true → is_address_text (encode_lower address) ≡ true
is_address_text-encode_lower address h =
    let size = length-is_address address h in
    let long = length-encode_with lower_digits address in
    and_from (length (encode_lower address) == 70) (list_all is_hex_digit (encode_lower address))
    (eq-eqb (length (encode_lower address)) 70 (omega (arith, size, long)))
    (list_all-encode_lower address (IsBytes-is_address address h))

-- different addresses are written differently
pub encode_lower_once : (first second : List ℕ) → is_address first ≡ true → is_address second ≡ true → encode_lower first ≡ encode_lower second → first ≡ second
encode_lower_once first second h g e =
    decode_of-same (encode_lower first) first second
    (decode_of-encode_lower first (IsBytes-is_address first h))
    (ap decode_of e ∙ decode_of-encode_lower second (IsBytes-is_address second g))

-- ---- from digits to bytes

-- the byte of two digits; above 255 where one is none
abbrev pub IsByteOf : ℕ → ℕ → ℕ → Type 0
IsByteOf value high low = (byte : ℕ) → byte < 256 → (value ≡ byte) ↔ (encode_lower (byte ∷ []) ≡ high ∷ low ∷ [])

-- the value of a digit
abbrev pub IsValueOf : ℕ → ℕ → Type 0
IsValueOf value c = (v : ℕ) → v < 16 → (value ≡ v) ↔ (c ≡ slice_index lower_digits v)

-- each entry of a table of values is that of a digit or 256
abbrev is_entry : List ℕ → ℕ → Bool
is_entry table c =
    (nat_lt (slice_index table c) 16 && slice_index lower_digits (slice_index table c) == c) || slice_index table c == 256

-- each digit has its entry
abbrev has_digit : List ℕ → ℕ → Bool
has_digit table v = slice_index table (slice_index lower_digits v) == v

-- what such a table has is below 16 or 256
pub other_in_table : (table : List ℕ) (c : ℕ) → c < 256 → agree_below (is_entry table) (λ k. true) 256 ≡ true
    → (slice_index table c < 16) ⊎ (slice_index table c ≡ 256)
other_in_table table c small all =
    let value = slice_index table c in
    elim (or_cases (nat_lt value 16 && slice_index lower_digits value == c) (value == 256) (agree_below_at (is_entry table) (λ k. true) 256 c all small)) [
      | inl digit ↦ inl (ltb-true value 16 (and_parts (nat_lt value 16) (slice_index lower_digits value == c) digit).0)
      | inr none ↦ inr (eqb-true value 256 none)
    ]

-- it has the values of all digits, and of no others
pub digit_in_table : (table : List ℕ) (c : ℕ) → c < 256 → agree_below (is_entry table) (λ k. true) 256 ≡ true → agree_below (has_digit table) (λ k. true) 16 ≡ true
    → IsValueOf (slice_index table c) c
digit_in_table table c small all back v fits =
    let value = slice_index table c in (
      λ e. elim (or_cases (nat_lt value 16 && slice_index lower_digits value == c) (value == 256) (agree_below_at (is_entry table) (λ k. true) 256 c all small)) [
        | inl digit ↦ sym (eqb-true (slice_index lower_digits value) c (and_parts (nat_lt value 16) (slice_index lower_digits value == c) digit).1) ∙ ap (slice_index lower_digits) e
        | inr none ↦ let is = eqb-true value 256 none in absurd (omega (arith, e, is))
      ],
      λ e. ap (slice_index table) e ∙ eqb-true _ v (agree_below_at (has_digit table) (λ k. true) 16 v back fits),
    )

-- the byte of two values of digits
pub byte_of_values : (high low v w : ℕ) → IsValueOf v high → (v < 16) ⊎ (v ≡ 256) → IsValueOf w low → (w < 16) ⊎ (w ≡ 256) → IsByteOf (v * 16 + w) high low
unfolding encode_with
byte_of_values high low v w first one second two byte fits = (
  λ e.
      let small : v < 16 = elim one [ inl s ↦ s | inr none ↦ absurd (omega arith) ] in
      let smaller : w < 16 = elim two [ inl s ↦ s | inr none ↦ absurd (omega arith) ] in
      let up : byte / 16 ≡ v = omega arith in
      let down : byte % 16 ≡ w = omega arith in
      rw (up, down, (first v small).0 refl, (second w smaller).0 refl) refl,
  λ e.
      let up : byte / 16 < 16 = omega arith in
      let down : byte % 16 < 16 = omega arith in
      let v_is = (first (byte / 16) up).1 (sym (ap (λ xs. slice_index xs 0) e)) in
      let w_is = (second (byte % 16) down).1 (sym (ap (λ xs. slice_index xs 1) e)) in
      omega (arith, v_is, w_is),
)

IsBytes-one : (byte : ℕ) → byte < 256 → IsBytes (byte ∷ [])
IsBytes-one byte small zero = small
IsBytes-one byte small (suc i) = omega arith

-- the digits of one byte
pub digits_of_byte : (byte high low : ℕ) → byte < 256 → encode_lower (byte ∷ []) ≡ high ∷ low ∷ [] → (is_hex_digit high ≡ true) × (is_hex_digit low ≡ true)
digits_of_byte byte high low small e =
    let all = rw e at (list_all-encode_lower (byte ∷ []) (IsBytes-one byte small)) in
    let first = and_parts (is_hex_digit high) (is_hex_digit low && true) all in
    (first.0, (and_parts (is_hex_digit low) true first.1).0)

abbrev value_or : ℕ → ℕ
value_or c = unwrap_or (hex_digit_value c) 99

-- the test of one digit, which computes
abbrev is_digit_of : ℕ → Bool
is_digit_of c = not (is_hex_digit c) || (nat_lt (value_or c) 16 && slice_index lower_digits (value_or c) == c)

digit_bound : (c : ℕ) → is_hex_digit c ≡ true → c < 103
digit_bound c h = grind arith

-- a digit is that of some value
digit_of : (c : ℕ) → is_hex_digit c ≡ true → (v : ℕ) × (v < 16) × (slice_index lower_digits v ≡ c)
digit_of c h =
    let test : is_digit_of c ≡ true = agree_below_at is_digit_of (λ k. true) 103 c refl (digit_bound c h) in
    let parts = and_parts (nat_lt (value_or c) 16) (slice_index lower_digits (value_or c) == c) (rw h at test) in
    (value_or c, ltb-true (value_or c) 16 parts.0, eqb-true (slice_index lower_digits (value_or c)) c parts.1)

-- two digits are those of a byte
pub byte_of_digits : (high low : ℕ) → is_hex_digit high ≡ true → is_hex_digit low ≡ true
    → (byte : ℕ) × (byte < 256) × (encode_lower (byte ∷ []) ≡ high ∷ low ∷ [])
unfolding encode_with
byte_of_digits high low h l =
    let v = digit_of high h in
    let w = digit_of low l in
    let up : (v.0 * 16 + w.0) / 16 ≡ v.0 = omega (arith, w.1) in
    let down : (v.0 * 16 + w.0) % 16 ≡ w.0 = omega (arith, w.1) in
    (v.0 * 16 + w.0, omega (arith, v.1, w.1), rw (up, down, v.2, w.2) refl)
