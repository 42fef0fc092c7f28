-- The bytes that are written: shortest varints, and nothing for a default value.
use Rattle.std.specs.Prelude.{◌≡◌, ℕ, zero, suc, ◌+◌, ◌*◌, ◌/◌, ◌%◌, ◌^◌, ◌<◌, ◌⊎◌, List, [], ◌∷◌, ◌++◌, length, Ok, nat_lt, ◌==◌, if◌then◌else◌}
use Rattle.std.specs.List.{flat_map}
use Rattle.saw_wire.specs.Reading.{records_of}
use Rattle.saw_wire.specs.Spelling.{Spells}
use Rattle.saw_wire.specs.Pieces.{Content, Number, Fixed, Chunk, Piece}

-- seven bits a byte, with room for so many bytes before the last
unfoldable pub varint_in : ℕ → ℕ → List ℕ
varint_in zero n = n ∷ []
varint_in (suc room) n = if nat_lt n 128 then n ∷ [] else (n % 128 + 128) ∷ varint_in room (n / 128)

-- the shortest varint of a number
unfoldable pub varint : ℕ → List ℕ
varint n = varint_in n n

abbrev pub IsFieldNumber : ℕ → Type 0
IsFieldNumber field = (0 < field) × (field < 2 ^ 29)

abbrev pub number_record : ℕ → ℕ → List ℕ
number_record field n = if n == 0 then [] else varint (field * 8) ++ varint n

abbrev pub item_record : ℕ → List ℕ → List ℕ
item_record field bytes = varint (field * 8 + 2) ++ varint (length bytes) ++ bytes

abbrev pub bytes_record : ℕ → List ℕ → List ℕ
bytes_record field bytes = if length bytes == 0 then [] else item_record field bytes

-- the records that are written for a field
abbrev pub number_pieces : ℕ → ℕ → List Piece
number_pieces field n = if n == 0 then [] else record { field = field; content = Number n } ∷ []

abbrev pub item_pieces : ℕ → List ℕ → List Piece
item_pieces field bytes = record { field = field; content = Chunk bytes } ∷ []

abbrev pub bytes_pieces : ℕ → List ℕ → List Piece
bytes_pieces field bytes = if length bytes == 0 then [] else item_pieces field bytes

-- the shortest bytes of a record
abbrev pub content_bytes : ℕ → Content → List ℕ
content_bytes field (Number n) = varint (field * 8) ++ varint n
content_bytes field (Fixed bytes) = varint (field * 8 + (if length bytes == 8 then 1 else 5)) ++ bytes
content_bytes field (Chunk bytes) = item_record field bytes

-- the bytes that are written for records
abbrev pub spelled : List Piece → List ℕ
spelled pieces = flat_map (λ piece. content_bytes piece.field piece.content) pieces

-- what can be written: numbers and lengths of 64 bits
abbrev pub IsContent : Content → Type 0
IsContent (Number n) = n < 2 ^ 64
IsContent (Fixed bytes) = (length bytes ≡ 8) ⊎ (length bytes ≡ 4)
IsContent (Chunk bytes) = length bytes < 2 ^ 64

abbrev pub AreWritable : List Piece → Type 0
AreWritable [] = Unit {0}
AreWritable (piece ∷ pieces) = (IsFieldNumber piece.field × IsContent piece.content) × AreWritable pieces

-- what is written for records is a spelling of them
abbrev pub WrittenIsSpelled : Type 0
WrittenIsSpelled = (pieces : List Piece) → AreWritable pieces → Spells pieces (spelled pieces)

-- what is written for records is read as them
abbrev pub WrittenIsRead : Type 0
WrittenIsRead = (pieces : List Piece) → AreWritable pieces → records_of (spelled pieces) ≡ Ok pieces
