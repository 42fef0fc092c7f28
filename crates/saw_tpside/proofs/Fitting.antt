-- What can be written, by the length of all that is written.
use Rattle.std.proofs.Common.{◌≡◌, ◌<◌, ◌+◌, ◌*◌, ◌^◌, ◌==◌, ◌⊎◌, ℕ, true, false, List, [], ◌∷◌, ◌++◌, length, ap, arith, if◌then◌else◌}
use Rattle.std.specs.List.{AllByRecursion}
use Rattle.std.proofs.lemmas.List.{length-append}
use Rattle.std.proofs.lemmas.List.Concat.{flat_map-cons}
use Rattle.saw_context.proofs.Each.{all_append}
use Rattle.saw_wire.specs.Pieces.{Chunk, Content, Fixed, Number, Piece}
use Rattle.saw_wire.specs.Writing.{AreWritable, IsContent, IsFieldNumber, bytes_pieces, content_bytes, item_pieces, number_pieces, spelled, varint}
use Rattle.saw_wire.specs.Written.{flag_pieces, items_pieces, texts_pieces}

-- what can be written if it is not too long
abbrev pub MayFit : Content → Type 0
MayFit (Number n) = n < 2 ^ 64
MayFit (Fixed bytes) = (length bytes ≡ 8) ⊎ (length bytes ≡ 4)
MayFit (Chunk bytes) = Unit {0}

abbrev pub MayStand : Piece → Type 0
MayStand piece = IsFieldNumber piece.field × MayFit piece.content

pub record AllMay (pieces : List Piece) : Type 0 where
  pub each : AllByRecursion MayStand pieces

infixr 9 ◌and◌
pub ◌and◌ : {xs ys : List Piece} → AllMay xs → AllMay ys → AllMay (xs ++ ys)
first and second = record { each = all_append MayStand _ _ first.each second.each }

pub bytes_may : (field : ℕ) (bytes : List ℕ) → IsFieldNumber field → AllMay (bytes_pieces field bytes)
bytes_may field bytes is =
    elim (length bytes == 0) as (λ none. AllMay (if none then [] else item_pieces field bytes)) [
      | true ↦ record { each = tt }
      | false ↦ record { each = ((is, tt), tt) }
    ]

pub number_may : (field n : ℕ) → IsFieldNumber field → n < 2 ^ 64 → AllMay (number_pieces field n)
number_may field n is fits =
    elim (n == 0) as (λ none. AllMay (if none then [] else record { field = field; content = Number n } ∷ [])) [
      | true ↦ record { each = tt }
      | false ↦ record { each = ((is, fits), tt) }
    ]

pub texts_may : (field : ℕ) (texts : List (List ℕ)) → IsFieldNumber field → AllMay (texts_pieces field texts)
texts_may field [] is = record { each = tt }
texts_may field (text ∷ texts) is = record { each = ((is, tt), (texts_may field texts is).each) }

pub items_may : {A : Type 0} (pieces : A → List Piece) (field : ℕ) (items : List A) → IsFieldNumber field → AllMay (items_pieces pieces field items)
items_may pieces field [] is = record { each = tt }
items_may pieces field (item ∷ items) is = record { each = ((is, tt), (items_may pieces field items is).each) }

-- each part is no longer than all
content_fits : (field : ℕ) (content : Content) → MayFit content → length (content_bytes field content) < 2 ^ 64 → IsContent content
content_fits field (Number n) may small = may
content_fits field (Fixed bytes) may small = may
content_fits field (Chunk bytes) may small =
    let a = length-append (varint (field * 8 + 2) ++ varint (length bytes)) bytes in
    omega (arith, a, small)

pub all_fit : (pieces : List Piece) → AllByRecursion MayStand pieces → length (spelled pieces) < 2 ^ 64 → AreWritable pieces
all_fit [] all small = tt
all_fit (piece ∷ pieces) all small =
    let bytes = content_bytes piece.field piece.content in
    let a = ap length (flat_map-cons (λ (piece : Piece). content_bytes piece.field piece.content) piece pieces) in
    let b = length-append (content_bytes piece.field piece.content) (spelled pieces) in
    let first : length (content_bytes piece.field piece.content) < 2 ^ 64 = omega (arith, a, b, small) in
    let others : length (spelled pieces) < 2 ^ 64 = omega (arith, a, b, small) in
    ((all.0.0, content_fits piece.field piece.content all.0.1 first), all_fit pieces all.1 others)

-- a chunk that is written is no longer than all
pub chunks_fit : (pieces : List Piece) → AreWritable pieces → AllByRecursion (λ piece. IsContent piece.content) pieces
chunks_fit [] fit = tt
chunks_fit (piece ∷ pieces) fit = (fit.0.1, chunks_fit pieces fit.1)
