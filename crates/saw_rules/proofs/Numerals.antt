-- Numbers of 1 to 9 decimal digits have room for a sign, and a text without `-` in front is such a number or none.
use Rattle.std.proofs.Common.{◌≡◌, ◌≢◌, ℕ, ◌-◌, ◌<◌, ◌^◌, ◌≤◌, Bool, true, false, List, [], ◌∷◌, length, map, Some, None, option_map, ℤ, pos, neg_ℤ, FitsSigned, Result, Ok, Err, w32, refl, ap, sym, rules, arith}
use Rattle.std.specs.Prelude.{nat_le, ◌&&◌, ◌==◌}
use Rattle.std.specs.Int.Digits.{number_from_digits_after}
use Rattle.std.specs.List.{list_all}
use Rattle.std.specs.Result.{OkIff, result_ok}
use Rattle.std.proofs.lemmas.Bool.{and_parts, eqb-true, leb-true}
use Rattle.std.proofs.lemmas.Str.Parse.{IsNumeralModel, numerals_by_fold, digits_value_short}
use Rattle.saw_settings.specs.Values.{is_digit, is_number, number_in}
use Rattle.saw_rules.specs.RuleTexts.{position_in}

abbrev read_on : ℕ → List ℕ → ℕ
read_on n text = number_from_digits_after 10 n (map (λ c. c - 48) text)

own : IsNumeralModel (λ text. list_all is_digit text ≡ true) (read_on 0)
own = numerals_by_fold _ (search rules) read_on (search rules)

is_small : (text : List ℕ) → is_number text ≡ true → read_on 0 text < 2 ^ 31
is_small text is =
    let parts = and_parts (nat_le 1 (length text) && nat_le (length text) 9) (list_all is_digit text) is in
    let size = and_parts (nat_le 1 (length text)) (nat_le (length text) 9) parts.0 in
    let few : length text ≤ 9 = leb-true (length text) 9 size.1 in
    omega (arith, digits_value_short own text 9 parts.1 few)

pub number_small : (text : List ℕ) (n : ℕ) → number_in text ≡ Some n → n < 2 ^ 31
unfolding number_in
number_small text n e = go (is_number text) refl
  where
    go : (b : Bool) → is_number text ≡ b → n < 2 ^ 31
    go false is = absurd (let bad : None ≡ Some n = rw is at e in cc)
    go true is =
        let same : Some (read_on 0 text) ≡ Some n = rw is at e in
        let value : read_on 0 text ≡ n = cc in
        omega (arith, is_small text is, value)

pub behind_minus : (text rest : List ℕ) → text ≡ 45 ∷ rest → position_in text ≡ option_map (λ n. neg_ℤ (pos n)) (number_in rest)
behind_minus text rest e = ap position_in e

none_of_none : None ≡ option_map pos (number_in [])
unfolding number_in
none_of_none = refl

pub without_minus : (text : List ℕ) → ((rest : List ℕ) → text ≢ 45 ∷ rest) → position_in text ≡ option_map pos (number_in text)
without_minus [] h = none_of_none
without_minus (b ∷ text) h = go (b == 45) refl
  where
    go : (minus : Bool) → (b == 45) ≡ minus → position_in (b ∷ text) ≡ option_map pos (number_in (b ∷ text))
    go true is = absurd (h text (ap (λ c. c ∷ text) (eqb-true b 45 is)))
    go false is = rw is refl

pub has_room : {E : Type 0} (r : Result ℤ E) (text : List ℕ) (n : ℕ) → Some n ≡ number_in text → OkIff r (FitsSigned w32 (pos n)) (pos n)
    → result_ok r ≡ option_map pos (number_in text)
has_room (Ok z) text n e h = rw (← e, h.1) refl
has_room (Err fault) text n e h = absurd (h (record { sfits = omega (arith, number_small text n (sym e)) }))
