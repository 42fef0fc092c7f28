-- What can be written, by the lengths of its parts or by the length of all that is written.
use Rattle.std.proofs.Common.{◌≡◌, ◌<◌, ◌+◌, ◌*◌, ◌^◌, ◌==◌, ◌⊎◌, ℕ, true, false, List, [], ◌∷◌, ◌++◌, length, ap, arith, if◌then◌else◌}
use Rattle.std.specs.Prelude.{sum_by}
use Rattle.std.specs.List.{AllByRecursion}
use Rattle.std.proofs.lemmas.List.{length-append}
use Rattle.std.proofs.lemmas.List.Concat.{flat_map-cons}
use Rattle.std.proofs.lemmas.List.Sums.{sum_by-cons}
use Rattle.saw_context.proofs.Each.{all_append}
use Rattle.saw_wire.specs.Pieces.{Chunk, Content, Fixed, Number, Piece}
use Rattle.saw_wire.specs.Writing.{AreWritable, IsContent, IsFieldNumber, bytes_pieces, content_bytes, item_pieces, number_pieces, spelled, varint}
use Rattle.saw_wire.specs.Written.{items_pieces, texts_pieces}
use Rattle.saw_messages.specs.Blocks.{block_header_pieces, block_pieces}
use Rattle.saw_messages.specs.Batches.{batch_pieces}
use Rattle.saw_messages.specs.declared.block.Block.{Block}
use Rattle.saw_messages.specs.declared.block.BlockHeader.{BlockHeader}
use Rattle.saw_publish.specs.Room.{bytes_in}

-- ---- by the length of all

-- what can be written if it is not too long
abbrev pub MayFit : Content → Type 0
MayFit (Number n) = n < 2 ^ 64
MayFit (Fixed bytes) = (length bytes ≡ 8) ⊎ (length bytes ≡ 4)
MayFit (Chunk bytes) = Unit {0}

abbrev pub MayStand : Piece → Type 0
MayStand piece = IsFieldNumber piece.field × MayFit piece.content

pub record AllMay (pieces : List Piece) : Type 0 where
  pub each : AllByRecursion MayStand pieces

infixr 9 ◌and◌
pub ◌and◌ : {xs ys : List Piece} → AllMay xs → AllMay ys → AllMay (xs ++ ys)
first and second = record { each = all_append MayStand _ _ first.each second.each }

pub bytes_may : (field : ℕ) (bytes : List ℕ) → IsFieldNumber field → AllMay (bytes_pieces field bytes)
bytes_may field bytes is =
    elim (length bytes == 0) as (λ none. AllMay (if none then [] else item_pieces field bytes)) [
      | true ↦ record { each = tt }
      | false ↦ record { each = ((is, tt), tt) }
    ]

number_may : (field n : ℕ) → IsFieldNumber field → n < 2 ^ 64 → AllMay (number_pieces field n)
number_may field n is fits =
    elim (n == 0) as (λ none. AllMay (if none then [] else record { field = field; content = Number n } ∷ [])) [
      | true ↦ record { each = tt }
      | false ↦ record { each = ((is, fits), tt) }
    ]

pub texts_may : (field : ℕ) (texts : List (List ℕ)) → IsFieldNumber field → AllMay (texts_pieces field texts)
texts_may field [] is = record { each = tt }
texts_may field (text ∷ texts) is = record { each = ((is, tt), (texts_may field texts is).each) }

-- each part is no longer than all
content_fits : (field : ℕ) (content : Content) → MayFit content → length (content_bytes field content) < 2 ^ 64 → IsContent content
content_fits field (Number n) may small = may
content_fits field (Fixed bytes) may small = may
content_fits field (Chunk bytes) may small =
    let a = length-append (varint (field * 8 + 2) ++ varint (length bytes)) bytes in
    omega (arith, a, small)

pub all_fit : (pieces : List Piece) → AllByRecursion MayStand pieces → length (spelled pieces) < 2 ^ 64 → AreWritable pieces
all_fit [] all small = tt
all_fit (piece ∷ pieces) all small =
    let bytes = content_bytes piece.field piece.content in
    let a = ap length (flat_map-cons (λ (piece : Piece). content_bytes piece.field piece.content) piece pieces) in
    let b = length-append (content_bytes piece.field piece.content) (spelled pieces) in
    let first : length (content_bytes piece.field piece.content) < 2 ^ 64 = omega (arith, a, b, small) in
    let others : length (spelled pieces) < 2 ^ 64 = omega (arith, a, b, small) in
    ((all.0.0, content_fits piece.field piece.content all.0.1 first), all_fit pieces all.1 others)

header_may : (m : BlockHeader) → m.block_num < 2 ^ 64 → AllMay (block_header_pieces m)
header_may m number =
    ((((number_may 1 m.block_num (omega arith, omega arith) number
    and bytes_may 2 m.previous_block_id (omega arith, omega arith))
    and bytes_may 3 m.signer_public_key (omega arith, omega arith))
    and texts_may 4 m.batch_ids (omega arith, omega arith))
    and bytes_may 5 m.consensus (omega arith, omega arith))
    and bytes_may 6 m.state_root_hash (omega arith, omega arith)

pub header_fits : (m : BlockHeader) → m.block_num < 2 ^ 64 → length (spelled (block_header_pieces m)) < 2 ^ 64
    → AreWritable (block_header_pieces m)
header_fits m number small = all_fit (block_header_pieces m) (header_may m number).each small

-- ---- by the lengths of parts

fit-append : (xs ys : List Piece) → AreWritable xs → AreWritable ys → AreWritable (xs ++ ys)
fit-append [] ys first second = second
fit-append (x ∷ xs) ys first second = (first.0, fit-append xs ys first.1 second)

bytes_fit : (field : ℕ) (bytes : List ℕ) → IsFieldNumber field → length bytes < 2 ^ 64 → AreWritable (bytes_pieces field bytes)
bytes_fit field bytes is small =
    elim (length bytes == 0) as (λ none. AreWritable (if none then [] else item_pieces field bytes)) [ true ↦ tt | false ↦ ((is, small), tt) ]

items_fit : {A : Type 0} (pieces : A → List Piece) (field : ℕ) (items : List A) → IsFieldNumber field
    → sum_by (λ item. length (spelled (pieces item))) items < 2 ^ 64 → AreWritable (items_pieces pieces field items)
items_fit pieces field [] is small = tt
items_fit {A = A} pieces field (item ∷ items) is small =
    let a = sum_by-cons (λ (item : A). length (spelled (pieces item))) item items in
    let first : length (spelled (pieces item)) < 2 ^ 64 = omega (arith, a, small) in
    let others : sum_by (λ item. length (spelled (pieces item))) items < 2 ^ 64 = omega (arith, a, small) in
    ((is, first), items_fit pieces field items is others)

pub block_fits : (m : Block) → length m.header < 2 ^ 64 → length m.header_signature < 2 ^ 64 → bytes_in m.batches < 2 ^ 64
    → AreWritable (block_pieces m)
block_fits m header signature batches =
    fit-append (bytes_pieces 1 m.header ++ bytes_pieces 2 m.header_signature) (items_pieces batch_pieces 3 m.batches)
    (fit-append (bytes_pieces 1 m.header) (bytes_pieces 2 m.header_signature)
    (bytes_fit 1 m.header (omega arith, omega arith) header)
    (bytes_fit 2 m.header_signature (omega arith, omega arith) signature))
    (items_fit batch_pieces 3 m.batches (omega arith, omega arith) batches)
