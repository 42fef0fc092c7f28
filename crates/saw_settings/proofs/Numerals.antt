-- Numbers of 1 to 9 decimal digits, as `parse` reads them.
use Rattle.std.proofs.Common.{◌≡◌, ℕ, ◌-◌, ◌≤◌, true, List, length, map, Result, Ok, refl, rules, arith}
use Rattle.std.specs.Int.Digits.{number_from_digits_after}
use Rattle.std.specs.List.{list_all}
use Rattle.std.specs.Result.{result_ok}
use Rattle.std.specs.Str.Parse.{ParsesUnsigned}
use Rattle.std.proofs.lemmas.Bool.{and_parts, leb-true}
use Rattle.std.proofs.lemmas.Str.Parse.{IsNumeralModel, numerals_by_fold, parse_gives, digits_value_short}
use Rattle.std.specs.Prelude.{nat_le, ◌&&◌}
use Rattle.saw_settings.specs.Values.{is_digit, is_number, number_in}

abbrev read_on : ℕ → List ℕ → ℕ
read_on n text = number_from_digits_after 10 n (map (λ c. c - 48) text)

own : IsNumeralModel (λ text. list_all is_digit text ≡ true) (read_on 0)
own = numerals_by_fold _ (search rules) read_on (search rules)

pub number_read : {E : Type 0} (text : List ℕ) (r : Result ℕ E) → ParsesUnsigned 32 10 text r → is_number text ≡ true → result_ok r ≡ number_in text
unfolding number_in
number_read text r read is =
    let parts = and_parts (nat_le 1 (length text) && nat_le (length text) 9) (list_all is_digit text) is in
    let size = and_parts (nat_le 1 (length text)) (nat_le (length text) 9) parts.0 in
    let some : 1 ≤ length text = leb-true 1 (length text) size.0 in
    let few : length text ≤ 9 = leb-true (length text) 9 size.1 in
    let gives : r ≡ Ok (read_on 0 text) = parse_gives own 32 text r read parts.1 (omega arith) (omega (arith, digits_value_short own text 9 parts.1 few)) in
    rw (gives, is) refl
