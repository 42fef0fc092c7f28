-- The number of bytes, the highest first.
use Rattle.std.proofs.Common.{◌≡◌, ℕ, ◌+◌, ◌*◌, ◌^◌, ◌<◌, ◌≤◌, List, length, get_or, drop, sym, ap, ◌∙◌, arith}
use Rattle.std.proofs.Math.Nat.{pow-le-pow_right}
use Rattle.std.proofs.lemmas.Grind.{pow_more}
use Rattle.std.proofs.lemmas.List.{drop_more, drop_all}
use Rattle.saw_cbor.specs.Spelling.{number_from}

-- eight bytes are room for the number of up to eight bytes
pub room_for : (i n b : ℕ) → i < 8 → n < 256 ^ i → b < 256 → n * 256 + b < 2 ^ 64
room_for i n b lt below byte =
    let le : i ≤ 7 = omega arith in
    let some : 0 < 256 = omega arith in
    let top : 256 ^ i ≤ 256 ^ 7 = pow-le-pow_right {n = 256} some {i = i} {j = 7} le in
    omega arith

pub one_more_byte : (i n b : ℕ) → n < 256 ^ i → b < 256 → n * 256 + b < 256 ^ (i + 1)
one_more_byte i n b below byte = omega (arith, pow_more 256 i)

pub number_goes_on : (bytes : List ℕ) (i n total : ℕ) → i < length bytes → number_from n (drop i bytes) ≡ total
    → number_from (n * 256 + get_or bytes i 0) (drop (i + 1) bytes) ≡ total
number_goes_on bytes i n total lt so_far = sym (ap (number_from n) (drop_more bytes i 0 lt)) ∙ so_far

pub number_ends : (bytes : List ℕ) (i n total : ℕ) → length bytes ≤ i → number_from n (drop i bytes) ≡ total → n ≡ total
number_ends bytes i n total le so_far = sym (ap (number_from n) (drop_all i bytes le)) ∙ so_far
