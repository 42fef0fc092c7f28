-- Numbers of 1 to 20 decimal digits, as `parse` reads them.
use Rattle.std.proofs.Common.{◌≡◌, ℕ, ◌-◌, ◌≤◌, ◌<◌, ◌^◌, true, List, length, map, Result, Ok, Err, MatchOption, inl, inr, rules, arith}
use Rattle.std.specs.Int.Digits.{number_from_digits_after}
use Rattle.std.specs.List.{list_all}
use Rattle.std.specs.Result.{result_ok}
use Rattle.std.specs.Str.Parse.{ParsesUnsigned}
use Rattle.std.proofs.lemmas.Bool.{and_parts, cases_lt, leb-true}
use Rattle.std.proofs.lemmas.Str.Parse.{IsNumeralModel, numerals_by_fold, parse_digits}
use Rattle.std.specs.Prelude.{OkIff, nat_le, ◌&&◌}
use Rattle.saw_words.specs.Numbers.{is_digit, is_number, number_of}

abbrev read_on : ℕ → List ℕ → ℕ
read_on n text = number_from_digits_after 10 n (map (λ c. c - 48) text)

own : IsNumeralModel (λ text. list_all is_digit text ≡ true) (read_on 0)
own = numerals_by_fold _ (search rules) read_on (search rules)

-- what does not hold of a smaller number tells that it is not smaller
at_least : (least n : ℕ) → (n < least → ⊥) → least ≤ n
at_least least n not = elim (cases_lt n least) [ inl less ↦ absurd (not less) | inr most ↦ most ]

-- a number is read, if 64 bits hold it
pub number_read : {E : Type 0} (text : List ℕ) (r : Result ℕ E) → ParsesUnsigned 64 10 text r → is_number text ≡ true
    → MatchOption (result_ok r) (2 ^ 64 ≤ number_of text) (λ n. n ≡ number_of text)
number_read text r read is =
    let parts = and_parts (nat_le 1 (length text) && nat_le (length text) 20) (list_all is_digit text) is in
    let size = and_parts (nat_le 1 (length text)) (nat_le (length text) 20) parts.0 in
    let some : 1 ≤ length text = leb-true 1 (length text) size.0 in
    of_result text r (omega (arith, some)) (parse_digits own 64 text r read parts.1)
  where
    of_result : {E : Type 0} (text : List ℕ) (r : Result ℕ E) → 0 < length text
        → OkIff r ((0 < length text) × (read_on 0 text < 2 ^ 64)) (read_on 0 text)
        → MatchOption (result_ok r) (2 ^ 64 ≤ number_of text) (λ n. n ≡ number_of text)
    of_result text (Ok n) some read = read.1
    of_result text (Err e) some read = at_least (2 ^ 64) (read_on 0 text) (λ less. read (some, less))
