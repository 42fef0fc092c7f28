-- What the records say of a field.
use Rattle.std.specs.Prelude.{◌%◌, ◌^◌, map, ℕ, Bool, true, false, not, List, [], ◌∷◌, Option, Some, None, ◌==◌}
use Rattle.std.specs.List.{filter_map, flat_map}
use Rattle.std.specs.Str.{is_utf8}
use Rattle.saw_wire.specs.Pieces.{Content, Number, Chunk, Piece}
use Rattle.saw_wire.specs.MessageReading.{pieces_of, fault_of}
use Rattle.saw_wire.specs.declared.fault.MessageFault.{MessageFault}
use Rattle.saw_wire.specs.declared.fault.MessageFault.TheVariants.{NotUtf8}

abbrev pub number_of : Bool → Content → Option ℕ
number_of true (Number n) = Some n
number_of _ _ = None

abbrev pub chunk_of : Bool → Content → Option (List ℕ)
chunk_of true (Chunk bytes) = Some bytes
chunk_of _ _ = None

-- the number that a record gives the field
unfoldable pub number_in : ℕ → Piece → Option ℕ
number_in field piece = number_of (piece.field == field) piece.content

-- the bytes that a record gives the field
unfoldable pub chunk_in : ℕ → Piece → Option (List ℕ)
chunk_in field piece = chunk_of (piece.field == field) piece.content

abbrev pub last_or : {A : Type 0} → A → List A → A
last_or d [] = d
last_or d (x ∷ xs) = last_or x xs

-- the last value of a number, and 0 where there is none
abbrev pub last_number : ℕ → List Piece → ℕ
last_number field pieces = last_or 0 (filter_map (number_in field) pieces)

-- the last value of a text or of bytes, and the empty one where there is none
abbrev pub last_bytes : ℕ → List Piece → List ℕ
last_bytes field pieces = last_or [] (filter_map (chunk_in field) pieces)

abbrev pub last_flag : ℕ → List Piece → Bool
last_flag field pieces = not (last_number field pieces == 0)

-- a number of 32 bits, or an enum
abbrev pub last_small : ℕ → List Piece → ℕ
last_small field pieces = last_number field pieces % 2 ^ 32

-- all values of a repeated text or of repeated bytes
abbrev pub all_bytes : ℕ → List Piece → List (List ℕ)
all_bytes field pieces = filter_map (chunk_in field) pieces

-- all values of a repeated message
abbrev pub all_items : {A : Type 0} → (List Piece → A) → ℕ → List Piece → List A
all_items of field pieces = map (λ bytes. of (pieces_of bytes)) (all_bytes field pieces)

abbrev pub inner_pieces : Option (List ℕ) → List Piece
inner_pieces None = []
inner_pieces (Some bytes) = pieces_of bytes

-- the records of all occurrences of a message
abbrev pub embedded : ℕ → List Piece → List Piece
embedded field pieces = flat_map (λ piece. inner_pieces (chunk_in field piece)) pieces

abbrev pub inner_fault : (Piece → Option MessageFault) → Option (List ℕ) → Option MessageFault
inner_fault fault None = None
inner_fault fault (Some bytes) = fault_of fault bytes

abbrev pub not_text : ℕ → Bool → Option MessageFault
not_text field true = None
not_text field false = Some (NotUtf8 field)

abbrev pub text_fault_of : ℕ → Option (List ℕ) → Option MessageFault
text_fault_of field None = None
text_fault_of field (Some bytes) = not_text field (is_utf8 bytes)

-- the fault of a record of a text field
unfoldable pub text_fault : ℕ → Piece → Option MessageFault
text_fault field piece = text_fault_of field (chunk_in field piece)

-- the fault of a record of a message field
unfoldable pub item_fault : (Piece → Option MessageFault) → ℕ → Piece → Option MessageFault
item_fault fault field piece = inner_fault fault (chunk_in field piece)
