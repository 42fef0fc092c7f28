-- A text covers the addresses that the prefix which it is written for covers.
use Rattle.std.proofs.Common.{◌≡◌, ◌<◌, ◌≤◌, ◌-◌, ◌/◌, ◌%◌, ℕ, Bool, true, false, ◌&&◌, ◌==◌, nat_eq, nat_le, nat_lt, List, [], ◌∷◌, length, slice_index, refl, sym, ap, ◌∙◌, arith, ◌⊎◌, inl, inr, true≢false, if◌then◌else◌}
use Rattle.std.specs.List.{list_all, starts_with}
use Rattle.std.proofs.lemmas.List.{get_or_past}
use Rattle.std.proofs.lemmas.Bool.{agree_below_at, and_from, and_parts, eqb-true, eq-eqb}
use Rattle.hex.specs.Hex.{encode_lower, encode_with, lower_digits}
use Rattle.saw_address.specs.Prefixes.{covers}
use Rattle.saw_address.specs.Texts.{is_hex_digit, is_prefix_text}
use Rattle.saw_context.specs.Conversation.{text_covers}

abbrev digit : ℕ → ℕ
digit k = slice_index lower_digits k

-- the value that a digit is written for
abbrev value : ℕ → ℕ
value c = if nat_lt c 58 then c - 48 else c - 87

value-digit : (k : ℕ) → k < 16 → value (digit k) ≡ k
value-digit k lt = eqb-true (value (digit k)) k (agree_below_at (λ n. value (digit n) == n) (λ n. true) 16 k refl lt)

lt-or-le : (a b : ℕ) → (a < b) ⊎ (b ≤ a)
lt-or-le a b = grind arith

-- past the table there is no digit
digit-past : (k : ℕ) → 16 ≤ k → digit k ≡ 0
digit-past k le = get_or_past lower_digits k 0 le

digit-small : (k : ℕ) → is_hex_digit (digit k) ≡ true → k < 16
digit-small k is = elim (lt-or-le k 16) [
  | inl less ↦ less
  | inr more ↦ absurd (true≢false (sym is ∙ ap is_hex_digit (digit-past k more)))
]

same-digit : (p a : ℕ) → is_hex_digit (digit p) ≡ true → digit p ≡ digit a → p ≡ a
same-digit p a is same =
    sym (value-digit p (digit-small p is)) ∙ (ap value same ∙ value-digit a (digit-small a (ap is_hex_digit (sym same) ∙ is)))

same-flags : (a b : Bool) → (a ≡ true → b ≡ true) → (b ≡ true → a ≡ true) → a ≡ b
same-flags true b f g = sym (f refl)
same-flags false true f g = g refl
same-flags false false f g = refl

-- a byte whose digits are those of another is that one
same-byte : (p a : ℕ) → is_hex_digit (digit (p / 16)) ≡ true → is_hex_digit (digit (p % 16)) ≡ true
    → (nat_eq (digit (p / 16)) (digit (a / 16)) && nat_eq (digit (p % 16)) (digit (a % 16))) ≡ nat_eq p a
same-byte p a high low = same-flags _ (nat_eq p a) forth back
  where
    forth : (nat_eq (digit (p / 16)) (digit (a / 16)) && nat_eq (digit (p % 16)) (digit (a % 16))) ≡ true → nat_eq p a ≡ true
    forth e =
        let parts = and_parts (nat_eq (digit (p / 16)) (digit (a / 16))) (nat_eq (digit (p % 16)) (digit (a % 16))) e in
        let x : p / 16 ≡ a / 16 = same-digit (p / 16) (a / 16) high (eqb-true _ _ parts.0) in
        let y : p % 16 ≡ a % 16 = same-digit (p % 16) (a % 16) low (eqb-true _ _ parts.1) in
        let z : p ≡ a = omega (arith, x, y) in
        eq-eqb p a z

    back : nat_eq p a ≡ true → (nat_eq (digit (p / 16)) (digit (a / 16)) && nat_eq (digit (p % 16)) (digit (a % 16))) ≡ true
    back e =
        let z : p ≡ a = eqb-true p a e in
        and_from (nat_eq (digit (p / 16)) (digit (a / 16))) (nat_eq (digit (p % 16)) (digit (a % 16)))
        (eq-eqb (digit (p / 16)) (digit (a / 16)) (ap (λ b. digit (b / 16)) z)) (eq-eqb (digit (p % 16)) (digit (a % 16)) (ap (λ b. digit (b % 16)) z))

and-assoc : (a b c : Bool) → (a && (b && c)) ≡ ((a && b) && c)
and-assoc true b c = refl
and-assoc false b c = refl

pub begins : (prefix at : List ℕ) → list_all is_hex_digit (encode_lower prefix) ≡ true → starts_with nat_eq (encode_lower at) (encode_lower prefix) ≡ covers prefix at
unfolding encode_with
begins [] at all = refl
begins (p ∷ ps) [] all = refl
begins (p ∷ ps) (a ∷ rest) all =
    let one = and_parts (is_hex_digit (digit (p / 16))) (is_hex_digit (digit (p % 16)) && list_all is_hex_digit (encode_lower ps)) all in
    let two = and_parts (is_hex_digit (digit (p % 16))) (list_all is_hex_digit (encode_lower ps)) one.1 in
    and-assoc (nat_eq (digit (p / 16)) (digit (a / 16))) (nat_eq (digit (p % 16)) (digit (a % 16))) (starts_with nat_eq (encode_lower rest) (encode_lower ps))
    ∙ (ap (λ b. b && starts_with nat_eq (encode_lower rest) (encode_lower ps)) (same-byte p a one.0 two.0) ∙ ap (λ b. nat_eq p a && b) (begins ps rest two.1))

-- a prefix's text covers what the prefix covers
pub text-covers : (text prefix at : List ℕ) → is_prefix_text text ≡ true → encode_lower prefix ≡ text → text_covers text at ≡ covers prefix at
text-covers text prefix at is written = rw (is, ← written) (begins prefix at (and_parts (length (encode_lower prefix) % 2 == 0 && nat_le (length (encode_lower prefix)) 70) (list_all is_hex_digit (encode_lower prefix)) (rw (← written) at is)).1)

pub isnt-prefix : (text : List ℕ) → (is_prefix_text text ≡ true → false ≡ true) → is_prefix_text text ≡ false
isnt-prefix text no_prefix = go (is_prefix_text text) no_prefix
  where
    go : (b : Bool) → (b ≡ true → false ≡ true) → b ≡ false
    go true f = sym (f refl)
    go false f = refl

-- a text that is none covers nothing
pub text-covers-none : (text at : List ℕ) → is_prefix_text text ≡ false → text_covers text at ≡ false
text-covers-none text at is = rw is refl
