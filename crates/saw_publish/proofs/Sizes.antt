-- How long records are, and the header of a block.
use Rattle.std.proofs.Common.{◌+◌, ◌*◌, ◌/◌, ◌%◌, ◌≤◌, ◌<◌, ◌^◌, ◌==◌, ◌∙◌, ap, arith}
use Rattle.std.proofs.Common.{◌≡◌, ℕ, zero, suc, Bool, true, false, cond, List, [], ◌∷◌, ◌++◌, length, nat_lt}
use Rattle.std.specs.List.{AllByRecursion}
use Rattle.std.proofs.lemmas.Bool.{lt-ltb}
use Rattle.std.proofs.lemmas.Grind.{flat_map-append}
use Rattle.std.proofs.lemmas.List.{length-append}
use Rattle.std.proofs.lemmas.List.Concat.{flat_map-cons}
use Rattle.saw_messages.specs.Blocks.{block_header_pieces}
use Rattle.saw_messages.specs.declared.block.BlockHeader.{BlockHeader}
use Rattle.saw_wire.specs.Pieces.{Chunk, Number, Piece}
use Rattle.saw_wire.specs.Writing.{bytes_pieces, content_bytes, item_record, number_pieces, spelled, varint, varint_in}
use Rattle.saw_wire.specs.Written.{items_pieces, texts_pieces}

-- ---- varints

-- a number below 128 has one byte
one_byte : (room n : ℕ) → n < 128 → length (varint_in room n) ≤ 1
unfolding varint_in
one_byte zero n low = omega arith
one_byte (suc room) n low = rw (lt-ltb n 128 low) (omega arith)

-- and each further byte has seven bits
one_more : (room n bytes : ℕ) → ((room : ℕ) → length (varint_in room (n / 128)) ≤ bytes) → length (varint_in room n) ≤ bytes + 1
unfolding varint_in
one_more zero n bytes rest = omega arith
one_more (suc room) n bytes rest = split (nat_lt n 128) (rest room)
  where
    split : (b : Bool) → length (varint_in room (n / 128)) ≤ bytes
        → length (cond b (n ∷ []) ((n % 128 + 128) ∷ varint_in room (n / 128))) ≤ bytes + 1
    split true rest = omega arith
    split false rest = omega (arith, rest)

key_short : (key : ℕ) → key < 128 → length (varint key) ≤ 1
unfolding varint
key_short key low = one_byte key key low

-- 128 * 128 * 128 is 2,097,152
varint_short : (n : ℕ) → n < 2097152 → length (varint n) ≤ 3
unfolding varint
varint_short n low = one_more n n 2 (λ room. one_more room (n / 128) 1 (λ room. one_byte room (n / 128 / 128) (omega (arith, low))))

-- 64 bits take at most ten bytes
varint_within : (n : ℕ) → n < 2 ^ 64 → length (varint n) ≤ 10
unfolding varint
varint_within n low =
    one_more n n 9 (λ r. one_more r (n / 128) 8 (λ r. one_more r (n / 128 / 128) 7 (λ r. one_more r (n / 128 / 128 / 128) 6 (λ r.
    one_more r (n / 128 / 128 / 128 / 128) 5 (λ r. one_more r (n / 128 / 128 / 128 / 128 / 128) 4 (λ r.
    one_more r (n / 128 / 128 / 128 / 128 / 128 / 128) 3 (λ r. one_more r (n / 128 / 128 / 128 / 128 / 128 / 128 / 128) 2 (λ r.
    one_more r (n / 128 / 128 / 128 / 128 / 128 / 128 / 128 / 128) 1 (λ r.
    one_byte r (n / 128 / 128 / 128 / 128 / 128 / 128 / 128 / 128 / 128) (omega (arith, low)))))))))))

-- ---- records

-- bytes of a field with a low number
pub item_short : (field : ℕ) (bytes : List ℕ) → field ≤ 15 → length bytes < 2097152 → length (item_record field bytes) ≤ length bytes + 4
item_short field bytes low small =
    let key = key_short (field * 8 + 2) (omega (arith, low)) in
    let size = varint_short (length bytes) small in
    let a : length (item_record field bytes) ≡ length (varint (field * 8 + 2) ++ varint (length bytes)) + length bytes
    = length-append (varint (field * 8 + 2) ++ varint (length bytes)) bytes in
    let b = length-append (varint (field * 8 + 2)) (varint (length bytes)) in
    omega (arith, key, size, a, b)

-- records together
pub spelled_both : (xs ys : List Piece) → length (spelled (xs ++ ys)) ≡ length (spelled xs) + length (spelled ys)
spelled_both xs ys = ap length (flat_map-append (λ (piece : Piece). content_bytes piece.field piece.content) xs ys) ∙ length-append (spelled xs) (spelled ys)

one_spelled : (piece : Piece) (pieces : List Piece)
    → length (spelled (piece ∷ pieces)) ≡ length (content_bytes piece.field piece.content) + length (spelled pieces)
one_spelled piece pieces =
    ap length (flat_map-cons (λ (piece : Piece). content_bytes piece.field piece.content) piece pieces)
    ∙ length-append (content_bytes piece.field piece.content) (spelled pieces)

pub bytes_short : (field : ℕ) (bytes : List ℕ) → field ≤ 15 → length bytes < 2097152 → length (spelled (bytes_pieces field bytes)) ≤ length bytes + 4
bytes_short field bytes low small =
    let a = one_spelled (record { field = field; content = Chunk bytes }) [] in
    let b = item_short field bytes low small in
    elim (length bytes == 0) as (λ none. length (spelled (cond none [] (record { field = field; content = Chunk bytes } ∷ []))) ≤ length bytes + 4) [
      | true ↦ omega arith
      | false ↦ omega (arith, a, b)
    ]

pub number_within : (field n : ℕ) → field ≤ 15 → n < 2 ^ 64 → length (spelled (number_pieces field n)) ≤ 11
number_within field n low small =
    let a = one_spelled (record { field = field; content = Number n }) [] in
    let b = length-append (varint (field * 8)) (varint n) in
    let key = key_short (field * 8) (omega (arith, low)) in
    let size = varint_within n small in
    elim (n == 0) as (λ none. length (spelled (cond none [] (record { field = field; content = Number n } ∷ []))) ≤ 11) [
      | true ↦ omega arith
      | false ↦ omega (arith, a, b, key, size)
    ]

one_more_times : (n size : ℕ) → size + n * size ≡ suc n * size
one_more_times n size = grind arith

-- texts of at most so many bytes
pub texts_short : (field size : ℕ) (texts : List (List ℕ)) → field ≤ 15 → size < 2097152 → AllByRecursion (λ text. length text ≤ size) texts
    → length (spelled (texts_pieces field texts)) ≤ length texts * (size + 4)
texts_short field size [] low small all = omega arith
texts_short field size (text ∷ texts) low small all =
    let a = one_spelled (record { field = field; content = Chunk text }) (texts_pieces field texts) in
    let b = item_short field text low (omega (arith, small, all.0)) in
    let rest = texts_short field size texts low small all.1 in
    let times = one_more_times (length texts) (size + 4) in
    omega (arith, a, b, rest, times, all.0)

-- items of at most so many bytes
pub items_short : {A : Type 0} (pieces : A → List Piece) (field size : ℕ) (items : List A) → field ≤ 15 → size < 2097152
    → AllByRecursion (λ item. length (spelled (pieces item)) ≤ size) items
    → length (spelled (items_pieces pieces field items)) ≤ length items * (size + 4)
items_short pieces field size [] low small all = omega arith
items_short pieces field size (item ∷ items) low small all =
    let a = one_spelled (record { field = field; content = Chunk (spelled (pieces item)) }) (items_pieces pieces field items) in
    let b = item_short field (spelled (pieces item)) low (omega (arith, small, all.0)) in
    let rest = items_short pieces field size items low small all.1 in
    let times = one_more_times (length items) (size + 4) in
    omega (arith, a, b, rest, times, all.0)

-- ---- the header of a block

-- with so many ids of batches
pub block_header_short : (m : BlockHeader) (count : ℕ) → m.block_num < 2 ^ 64 → length m.previous_block_id ≤ 128 → length m.signer_public_key ≤ 66
    → length m.batch_ids ≤ count → AllByRecursion (λ id. length id ≤ 128) m.batch_ids → length m.consensus ≤ 10 → length m.state_root_hash ≤ 64
    → length (spelled (block_header_pieces m)) ≤ 300 + count * 132
block_header_short m count number a b few ids c d =
    let p1 = number_pieces 1 m.block_num in
    let p2 = bytes_pieces 2 m.previous_block_id in
    let p3 = bytes_pieces 3 m.signer_public_key in
    let p4 = texts_pieces 4 m.batch_ids in
    let p5 = bytes_pieces 5 m.consensus in
    let p6 = bytes_pieces 6 m.state_root_hash in
    let s2 = spelled_both p1 p2 in
    let s3 = spelled_both (p1 ++ p2) p3 in
    let s4 = spelled_both (p1 ++ p2 ++ p3) p4 in
    let s5 = spelled_both (p1 ++ p2 ++ p3 ++ p4) p5 in
    let s6 : length (spelled (block_header_pieces m)) ≡ length (spelled (p1 ++ p2 ++ p3 ++ p4 ++ p5)) + length (spelled p6)
    = spelled_both (p1 ++ p2 ++ p3 ++ p4 ++ p5) p6 in
    let t1 = number_within 1 m.block_num (omega arith) number in
    let t2 = bytes_short 2 m.previous_block_id (omega arith) (omega (arith, a)) in
    let t3 = bytes_short 3 m.signer_public_key (omega arith) (omega (arith, b)) in
    let t4 = texts_short 4 128 m.batch_ids (omega arith) (omega arith) ids in
    let t5 = bytes_short 5 m.consensus (omega arith) (omega (arith, c)) in
    let t6 = bytes_short 6 m.state_root_hash (omega arith) (omega (arith, d)) in
    omega (arith, s2, s3, s4, s5, s6, t1, t2, t3, t4, t5, t6, few, a, b, c, d)
