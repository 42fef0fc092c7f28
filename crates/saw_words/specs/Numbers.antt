-- Numbers among the words.
use Rattle.std.specs.Prelude.{ℕ, ◌-◌, Bool, ◌&&◌, nat_le, List, length, map, Option, Some, None, if◌then◌else◌}
use Rattle.std.specs.List.{list_all}
use Rattle.std.specs.Int.Digits.{number_from_digits}

abbrev pub is_digit : ℕ → Bool
is_digit c = nat_le 48 c && nat_le c 57

-- 1 to 20 decimal digits
abbrev pub is_number : List ℕ → Bool
is_number text = nat_le 1 (length text) && nat_le (length text) 20 && list_all is_digit text

abbrev pub number_of : List ℕ → ℕ
number_of text = number_from_digits 10 (map (λ c. c - 48) text)

abbrev pub is_between : ℕ → ℕ → ℕ → Bool
is_between first last n = nat_le first n && nat_le n last

-- the number that a text is, if it is one from the first to the last
unfoldable pub number_in : ℕ → ℕ → List ℕ → Option ℕ
number_in first last text =
    if is_number text && is_between first last (number_of text) then Some (number_of text) else None
