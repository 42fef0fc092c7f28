-- The payloads of a stream are short.
use Rattle.std.proofs.Common.{◌≡◌, ℕ, zero, suc, ◌+◌, ◌%◌, ◌^◌, ◌<◌, ◌≤◌, ◌==◌, ◌&&◌, Bool, true, false, List, ◌++◌, length, codes, nat_lt, refl, arith}
use Rattle.std.specs.Fmt.{decimal}
use Rattle.std.specs.Int.{bytes_high_first, to_be_bytes, w16, w32, w64}
use Rattle.std.specs.Prelude.{if◌then◌else◌}
use Rattle.std.proofs.lemmas.Fmt.{length-decimal-le}
use Rattle.std.proofs.lemmas.List.{length-append}
use Rattle.saw_cbor.specs.Data.{Cbor, Pairs, no_pairs, pair, pairs_count, text, unsigned}
use Rattle.saw_cbor.specs.Writing.{head, pairs_written, written}
use Rattle.saw_intkey.specs.Payloads.{pairs_of_payload, payload_bytes, verb_text}
use Rattle.saw_intkey.specs.declared.payload.Payload.{Payload}
use Rattle.saw_intkey.specs.declared.payload.Verb.{Verb}
use Rattle.saw_intkey.specs.declared.payload.Verb.TheVariants.{Set, Inc, Dec}
use Rattle.saw_generate.specs.Draws.{draw_at}
use Rattle.saw_generate.specs.Operations.{add_to, draws_before, first_of, hot, name_at, second_of, set_to}
use Rattle.saw_generate.specs.declared.wish.GenerateWish.{GenerateWish}

-- ---- items

length-bytes_high_first : (k n : ℕ) → length (bytes_high_first k n) ≡ k
length-bytes_high_first zero n = refl
length-bytes_high_first (suc k) n = omega (arith, length-bytes_high_first k n)

either_short : (b : Bool) (xs ys : List ℕ) → length xs ≤ 9 → length ys ≤ 9 → length (if b then xs else ys) ≤ 9
either_short true xs ys one other = one
either_short false xs ys one other = other

head_short : (major n : ℕ) → length (head major n) ≤ 9
unfolding head
head_short major n =
    let two : length (to_be_bytes w16 n) ≡ 2 = length-bytes_high_first 2 n in
    let four : length (to_be_bytes w32 n) ≡ 4 = length-bytes_high_first 4 n in
    let eight : length (to_be_bytes w64 n) ≡ 8 = length-bytes_high_first 8 n in
    either_short (nat_lt n 24) _ _ (omega arith)
    (either_short (nat_lt n (2 ^ 8)) _ _ (omega arith)
    (either_short (nat_lt n (2 ^ 16)) _ _ (omega (arith, two))
    (either_short (nat_lt n (2 ^ 32)) _ _ (omega (arith, four)) (omega (arith, eight)))))

text_short : (t : List ℕ) → length (written (text t)) ≤ length t + 9
text_short t = omega (arith, head_short 3 (length t), length-append (head 3 (length t)) t)

pair_short : (key value : Cbor) (rest : Pairs)
    → length (pairs_written (pair key value rest)) ≡ length (written key) + length (written value) + length (pairs_written rest)
pair_short key value rest =
    let a = length-append (written key) (written value) in
    let b = length-append (written key ++ written value) (pairs_written rest) in
    omega (arith, a, b)

-- ---- payloads

verb_short : (verb : Verb) → length (verb_text verb) ≤ 3
verb_short Set = omega arith
verb_short Inc = omega arith
verb_short Dec = omega arith

payload_short : (payload : Payload) → length payload.name ≤ 20 → length (payload_bytes payload) ≤ 100
unfolding payload_bytes
payload_short payload short =
    let verb = text (verb_text payload.verb) in
    let name = text payload.name in
    let value = unsigned payload.value in
    let last = pair (text (codes "Value")) value no_pairs in
    let two = pair (text (codes "Name")) name last in
    let whole = length-append (head 5 (pairs_count (pairs_of_payload payload))) (pairs_written (pairs_of_payload payload)) in
    let a = pair_short (text (codes "Verb")) verb two in
    let b = pair_short (text (codes "Name")) name last in
    let c = pair_short (text (codes "Value")) value no_pairs in
    let first = head_short 5 (pairs_count (pairs_of_payload payload)) in
    let d = text_short (codes "Verb") in
    let e = text_short (verb_text payload.verb) in
    let f = text_short (codes "Name") in
    let g = text_short payload.name in
    let h = text_short (codes "Value") in
    let i = head_short 0 payload.value in
    omega (arith, whole, first, a, b, c, d, e, f, g, h, i, verb_short payload.verb, short)

-- ---- the two of a batch

name_short : (k : ℕ) → k < 5000 → length (name_at k) ≤ 20
name_short k low = omega (arith, length-append (codes "n") (decimal k), length-decimal-le 4 k (omega arith) (omega arith) (omega (arith, low)))

named_short : (b : Bool) (one other : Payload) → length one.name ≤ 20 → length other.name ≤ 20 → length (if b then one else other).name ≤ 20
named_short true one other here there = here
named_short false one other here there = there

module _ (wish : GenerateWish) (b k : ℕ) (low : k < 5000) where
  pub first_short : length (payload_bytes (first_of wish b k)) ≤ 100
  first_short =
      let p = draw_at wish.start (draws_before wish b k) in
      payload_short (first_of wish b k)
      (named_short (b == 0) (set_to (name_at k) (p % 1000)) (add_to (name_at k) (p % 10)) (name_short k low) (name_short k low))

  pub second_short : length (payload_bytes (second_of wish b k)) ≤ 100
  second_short =
      let q = draw_at wish.start (draws_before wish b k + 1) in
      payload_short (second_of wish b k)
      (named_short (b == 0 && k == 0) (set_to hot 0) _ (omega arith)
      (named_short (nat_lt (q % 100) wish.conflicts) (add_to hot 1) (add_to (name_at k) 1) (omega arith) (name_short k low)))
