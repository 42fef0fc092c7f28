-- The address of a name: 35 bytes, and its text covers it.
use Rattle.std.proofs.Common.{◌≡◌, ℕ, zero, suc, ◌%◌, ◌<◌, ◌==◌, Bool, true, ◌&&◌, nat_lt, List, [], ◌∷◌, length, take, drop, None, refl, sym, ◌∙◌, arith}
use Rattle.std.specs.Prelude.{nat_eq, nat_le, slice_index}
use Rattle.std.specs.Int.{bytes_high_first, byte_at, to_be_bytes, w64}
use Rattle.std.specs.List.{list_all, starts_with}
use Rattle.std.proofs.lemmas.Bool.{and_from, and_parts, eq-eqb, eqb-true, le-leb, lt-ltb, or_left}
use Rattle.std.proofs.lemmas.List.{length-drop, take_all}
use Rattle.std.proofs.lemmas.List.Folds.{list_all-append}
use Rattle.std.proofs.lemmas.Slice.Eq.{bytes_eq-Decides}
use Rattle.hex.specs.Hex.{encode_lower}
use Rattle.sha2.specs.Sha512.{digest_bytes, final_hash, initial_hash_512, sha512}
use Rattle.sha2.proofs.Facts512.{length-sha512}
use Rattle.saw_address.specs.Maps.{is_address}
use Rattle.saw_address.specs.Texts.{is_address_text, is_hex_digit, is_prefix_text}
use Rattle.saw_address.proofs.Digits.{is_address_text-encode_lower}
use Rattle.saw_context.specs.Conversation.{are_covering, first_refused, is_granted, text_covers}
use Rattle.saw_messages.specs.declared.talk.Place.{Place}
use Rattle.saw_messages.specs.declared.talk.Place.TheVariants.{At}
use Rattle.saw_intkey.specs.Actions.{address_of}

-- ---- bytes

abbrev are_bytes : List ℕ → Bool
are_bytes xs = list_all (λ b. nat_lt b 256) xs

byte_is_low : (k n : ℕ) → byte_at k n < 256
byte_is_low zero n = omega arith
byte_is_low (suc k) n = omega arith

high_first_are : (k n : ℕ) → are_bytes (bytes_high_first k n) ≡ true
high_first_are zero n = refl
high_first_are (suc k) n =
    and_from (nat_lt (byte_at k n) 256) (are_bytes (bytes_high_first k n)) (lt-ltb (byte_at k n) 256 (byte_is_low k n)) (high_first_are k n)

digest_are : (h : List ℕ) (n : ℕ) → are_bytes (digest_bytes h n) ≡ true
unfolding digest_bytes
digest_are h zero = refl
digest_are h (suc n) =
    list_all-append (λ b. nat_lt b 256) (digest_bytes h n) (to_be_bytes w64 (slice_index h n))
    ∙ and_from (are_bytes (digest_bytes h n)) (are_bytes (to_be_bytes w64 (slice_index h n))) (digest_are h n) (high_first_are 8 (slice_index h n))

pub sha512_are : (text : List ℕ) → are_bytes (sha512 text) ≡ true
unfolding sha512
sha512_are text = digest_are (final_hash initial_hash_512 text) 8

dropped_are : (n : ℕ) (xs : List ℕ) → are_bytes xs ≡ true → are_bytes (drop n xs) ≡ true
dropped_are zero xs h = h
dropped_are (suc n) [] h = refl
dropped_are (suc n) (x ∷ xs) h = dropped_are n xs (and_parts (nat_lt x 256) (are_bytes xs) h).1

behind_family : (tail : List ℕ) → length tail ≡ 32 → are_bytes tail ≡ true → is_address (0x1c ∷ 0xf1 ∷ 0x26 ∷ tail) ≡ true
behind_family tail long are =
    let whole : List ℕ = 0x1c ∷ 0xf1 ∷ 0x26 ∷ tail in
    and_from (length whole == 35) (are_bytes whole) (eq-eqb (length whole) 35 (omega arith)) are

-- the address of a name has 35 bytes
pub address_is : (name : List ℕ) → is_address (address_of name) ≡ true
unfolding address_of
address_is name =
    behind_family (drop 32 (sha512 name)) (omega (arith, length-drop 32 (sha512 name), length-sha512 name)) (dropped_are 32 (sha512 name) (sha512_are name))

-- ---- texts

address_text_is_prefix : (text : List ℕ) → is_address_text text ≡ true → is_prefix_text text ≡ true
address_text_is_prefix text h =
    let parts = and_parts (length text == 70) (list_all is_hex_digit text) h in
    let long : length text ≡ 70 = eqb-true (length text) 70 parts.0 in
    let even : length text % 2 ≡ 0 = omega arith in
    and_from (length text % 2 == 0 && nat_le (length text) 70) (list_all is_hex_digit text)
    (and_from (length text % 2 == 0) (nat_le (length text) 70) (eq-eqb (length text % 2) 0 even) (le-leb (length text) 70 (omega arith))) parts.1

-- the text of an address is a prefix text
pub text_is_prefix : (address : List ℕ) → is_address address ≡ true → is_prefix_text (encode_lower address) ≡ true
text_is_prefix address is = address_text_is_prefix (encode_lower address) (is_address_text-encode_lower address is)

text_covers_its : (address : List ℕ) → is_address address ≡ true → text_covers (encode_lower address) address ≡ true
text_covers_its address is =
    let text = encode_lower address in
    and_from (is_prefix_text text) (starts_with nat_eq text text) (text_is_prefix address is)
    ((bytes_eq-Decides text (take (length text) text)).1 (sym (take_all (length text) text (omega arith))))

-- an address is granted where its text is declared
pub its_text_grants : (address : List ℕ) → is_address address ≡ true → is_granted (encode_lower address ∷ []) (At address) ≡ true
its_text_grants address is =
    and_from (is_address address) (are_covering (encode_lower address ∷ []) address) is
    (or_left (text_covers (encode_lower address) address) (are_covering [] address) (text_covers_its address is))

-- a granted place is not refused
pub none_refused : (texts : List (List ℕ)) (place : Place) → is_granted texts place ≡ true → first_refused texts (place ∷ []) ≡ None
none_refused texts place granted = rw granted refl
