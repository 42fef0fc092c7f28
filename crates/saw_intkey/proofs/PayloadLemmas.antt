-- What is written for a payload is read back.
use Rattle.std.proofs.Common.{◌≡◌, ℕ, ◌≤◌, ◌<◌, ◌^◌, ltb, [], ◌∷◌, true, false, List, length, Some, None, Ok, refl, ap, ◌∙◌, arith}
use Rattle.std.specs.Prelude.{nat_le, ◌&&◌, codes}
use Rattle.std.specs.Str.{IsAscii, chars}
use Rattle.std.specs.List.{list_all}
use Rattle.std.proofs.lemmas.Bool.{and_parts, cond-true, le-leb, ltb-true}
use Rattle.std.proofs.lemmas.Str.{IsUtf8-from_ascii, is_utf8-from_IsUtf8}
use Rattle.std.proofs.lemmas.Str.Ascii.{IsAscii-cons, IsAscii-nil}
use Rattle.saw_cbor.specs.Data.{pairs, text}
use Rattle.saw_cbor.specs.Writing.{IsHeld}
use Rattle.saw_cbor.proofs.Written.{written_back}
use Rattle.saw_intkey.specs.Laws.{IsPayload, PayloadIsRead}
use Rattle.saw_intkey.specs.Payloads.{max_depth, max_value, name_in, number_in, pairs_in, pairs_of_payload, payload_by, payload_bytes, payload_in, payload_of, verb_in, verb_text, with_name, with_value, with_verb}
use Rattle.saw_intkey.specs.declared.payload.Payload.{Payload}
use Rattle.saw_intkey.specs.declared.payload.Verb.{Verb}
use Rattle.saw_intkey.specs.declared.payload.Verb.TheVariants.{Set, Inc, Dec}

verb_back : (verb : Verb) → verb_in (verb_text verb) ≡ Some verb
verb_back Set = refl
verb_back Inc = refl
verb_back Dec = refl

both-true : (a b : _) → a ≡ true → b ≡ true → (a && b) ≡ true
both-true true b e f = f
both-true false b e f = absurd cc

name_back : (name : List ℕ) → 1 ≤ length (chars name) → length (chars name) ≤ 20 → name_in name ≡ Some name
name_back name some few =
    cond-true (nat_le 1 (length (chars name)) && nat_le (length (chars name)) 20) (Some name) None
    (both-true (nat_le 1 (length (chars name))) (nat_le (length (chars name)) 20) (le-leb 1 (length (chars name)) some) (le-leb (length (chars name)) 20 few))

number_back : (n : ℕ) → n ≤ max_value → number_in n ≡ Some n
number_back n le = cond-true (nat_le n max_value) (Some n) None (le-leb n max_value le)

in_pairs : (payload : Payload) → IsPayload payload → payload_in (pairs_of_payload payload) ≡ Ok payload
unfolding payload_in
in_pairs payload is =
    ap (λ verb. with_verb verb (pairs_of_payload payload)) (verb_back payload.verb)
    ∙ ap (λ name. with_name payload.verb name (pairs_of_payload payload)) (name_back payload.name is.some is.few)
    ∙ ap (with_value payload.verb payload.name) (number_back payload.value is.fits)

small_from : (word : List ℕ) → list_all (λ b. ltb b 128) word ≡ true → IsAscii word
small_from [] h = IsAscii-nil
small_from (b ∷ word) h =
    let parts = and_parts (ltb b 128) (list_all (λ b. ltb b 128) word) h in
    IsAscii-cons b word (ltb-true b 128 parts.0) (small_from word parts.1)

word_held : (word : List ℕ) → list_all (λ b. ltb b 128) word ≡ true → length word < 2 ^ 64 → IsHeld (text word)
word_held word h short = (short, is_utf8-from_IsUtf8 word (IsUtf8-from_ascii word (small_from word h)))

verb_held : (verb : Verb) → IsHeld (text (verb_text verb))
verb_held Set = word_held (codes "set") refl (omega arith)
verb_held Inc = word_held (codes "inc") refl (omega arith)
verb_held Dec = word_held (codes "dec") refl (omega arith)

pub payload_is_read : PayloadIsRead
unfolding payload_bytes payload_of
payload_is_read payload is =
    let ps = pairs_of_payload payload in
    let held : IsHeld (pairs ps) = (omega arith, (word_held (codes "Verb") refl (omega arith), verb_held payload.verb, (word_held (codes "Name") refl (omega arith), (is.short, is.utf8), (word_held (codes "Value") refl (omega arith), omega (arith, is.fits), tt)))) in
    ap (λ found. payload_by (pairs_in found)) (written_back max_depth (pairs ps) held (omega arith))
    ∙ in_pairs payload is
