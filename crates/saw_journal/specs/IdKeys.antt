-- Ids of 128 hex digits, as bytes.
use Rattle.std.specs.Prelude.{ℕ, ◌+◌, ◌*◌, ◌/◌, ◌%◌, ◌==◌, ◌&&◌, List, [], ◌∷◌, length, Option, Some, None, if◌then◌else◌}
use Rattle.std.specs.Str.{bytes_eq}
use Rattle.hex.specs.Hex.{encode_lower}

-- the value of a hex digit: `0` is 48, `a` is 97; of another byte a number that is of no use
abbrev pub value_of : ℕ → ℕ
value_of digit = digit % 16 + 9 * (digit / 64)

-- a byte for each two digits
unfoldable pub packed : List ℕ → List ℕ
packed [] = []
packed (digit ∷ []) = []
packed (high ∷ low ∷ digits) = (16 * value_of high + value_of low) % 256 ∷ packed digits

-- these bytes, if the id is their 128 digits
abbrev pub key_by : List ℕ → List ℕ → Option (List ℕ)
key_by id bytes = if length id == 128 && bytes_eq id (encode_lower bytes) then Some bytes else None

-- the bytes whose digits an id of 128 hex digits without capitals is
abbrev pub key_of : List ℕ → Option (List ℕ)
key_of id = key_by id (packed id)
