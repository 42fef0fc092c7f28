-- Texts of hex digits: 0 to 9 and a to f.
use Rattle.std.specs.Prelude.{ℕ, ◌%◌, Bool, ◌&&◌, ◌||◌, List, length, ◌==◌, nat_le}
use Rattle.std.specs.List.{list_all}

abbrev pub is_hex_digit : ℕ → Bool
is_hex_digit c = (nat_le 48 c && nat_le c 57) || (nat_le 97 c && nat_le c 102)

-- exactly so many hex digits
abbrev pub is_hex_text : ℕ → List ℕ → Bool
is_hex_text count text = length text == count && list_all is_hex_digit text

-- an address as it is written: 35 bytes, two digits each
abbrev pub is_address_text : List ℕ → Bool
is_address_text text = is_hex_text 70 text

-- a prefix as it is written: at most 35 bytes, two digits each
abbrev pub is_prefix_text : List ℕ → Bool
is_prefix_text text = length text % 2 == 0 && nat_le (length text) 70 && list_all is_hex_digit text
