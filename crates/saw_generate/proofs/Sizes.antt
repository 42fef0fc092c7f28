-- How long the messages of a stream are.
use Rattle.std.proofs.Common.{◌+◌, ◌≤◌, ◌++◌, ◌≡◌, ℕ, false, List, [], ◌∷◌, length, arith}
use Rattle.std.specs.List.{AllByRecursion}
use Rattle.saw_messages.specs.Batches.{batch_header_pieces, batch_pieces}
use Rattle.saw_messages.specs.Blocks.{block_pieces}
use Rattle.saw_messages.specs.Transactions.{transaction_header_pieces, transaction_pieces}
use Rattle.saw_messages.specs.declared.batch.Batch.{Batch}
use Rattle.saw_messages.specs.declared.batch.BatchHeader.{BatchHeader}
use Rattle.saw_messages.specs.declared.block.Block.{Block}
use Rattle.saw_messages.specs.declared.transaction.Transaction.{Transaction}
use Rattle.saw_messages.specs.declared.transaction.TransactionHeader.{TransactionHeader}
use Rattle.saw_publish.proofs.Sizes.{bytes_short, items_short, spelled_both, texts_short}
use Rattle.saw_wire.specs.Pieces.{Piece}
use Rattle.saw_wire.specs.Writing.{bytes_pieces, spelled}
use Rattle.saw_wire.specs.Written.{items_pieces, texts_pieces}

-- ---- transactions and batches

-- a header with one input and one output
pub header_short : (m : TransactionHeader) (input output : List ℕ) → m.dependencies ≡ [] → m.inputs ≡ input ∷ [] → m.outputs ≡ output ∷ []
    → length m.batcher_public_key ≤ 66 → length m.family_name ≤ 10 → length m.family_version ≤ 10 → length input ≤ 70 → length m.nonce ≤ 200
    → length output ≤ 70 → length m.payload_sha512 ≤ 128 → length m.signer_public_key ≤ 66
    → length (spelled (transaction_header_pieces m)) ≤ 700
header_short m input output free one other a b c d e f g h =
    let p1 = bytes_pieces 1 m.batcher_public_key in
    let p2 = texts_pieces 2 m.dependencies in
    let p3 = bytes_pieces 3 m.family_name in
    let p4 = bytes_pieces 4 m.family_version in
    let p5 = texts_pieces 5 m.inputs in
    let p6 = bytes_pieces 6 m.nonce in
    let p7 = texts_pieces 7 m.outputs in
    let p9 = bytes_pieces 9 m.payload_sha512 in
    let p10 = bytes_pieces 10 m.signer_public_key in
    let s2 = spelled_both p1 p2 in
    let s3 = spelled_both (p1 ++ p2) p3 in
    let s4 = spelled_both (p1 ++ p2 ++ p3) p4 in
    let s5 = spelled_both (p1 ++ p2 ++ p3 ++ p4) p5 in
    let s6 = spelled_both (p1 ++ p2 ++ p3 ++ p4 ++ p5) p6 in
    let s7 = spelled_both (p1 ++ p2 ++ p3 ++ p4 ++ p5 ++ p6) p7 in
    let s9 = spelled_both (p1 ++ p2 ++ p3 ++ p4 ++ p5 ++ p6 ++ p7) p9 in
    let s10 : length (spelled (transaction_header_pieces m)) ≡ length (spelled (p1 ++ p2 ++ p3 ++ p4 ++ p5 ++ p6 ++ p7 ++ p9)) + length (spelled p10)
    = spelled_both (p1 ++ p2 ++ p3 ++ p4 ++ p5 ++ p6 ++ p7 ++ p9) p10 in
    let none : length (spelled p2) ≤ 0 = rw free (omega arith) in
    let first : length (spelled p5) ≤ 74 = rw one (texts_short 5 70 (input ∷ []) (omega arith) (omega arith) (d, tt)) in
    let last : length (spelled p7) ≤ 74 = rw other (texts_short 7 70 (output ∷ []) (omega arith) (omega arith) (f, tt)) in
    let t1 = bytes_short 1 m.batcher_public_key (omega arith) (omega (arith, a)) in
    let t3 = bytes_short 3 m.family_name (omega arith) (omega (arith, b)) in
    let t4 = bytes_short 4 m.family_version (omega arith) (omega (arith, c)) in
    let t6 = bytes_short 6 m.nonce (omega arith) (omega (arith, e)) in
    let t9 = bytes_short 9 m.payload_sha512 (omega arith) (omega (arith, g)) in
    let t10 = bytes_short 10 m.signer_public_key (omega arith) (omega (arith, h)) in
    omega (arith, s2, s3, s4, s5, s6, s7, s9, s10, none, first, last, t1, t3, t4, t6, t9, t10, a, b, c, e, g, h)

pub transaction_short : (m : Transaction) → length m.header ≤ 700 → length m.header_signature ≤ 128 → length m.payload ≤ 100
    → length (spelled (transaction_pieces m)) ≤ 940
transaction_short m a b c =
    let p1 = bytes_pieces 1 m.header in
    let p2 = bytes_pieces 2 m.header_signature in
    let p3 = bytes_pieces 3 m.payload in
    let s2 = spelled_both p1 p2 in
    let s3 : length (spelled (transaction_pieces m)) ≡ length (spelled (p1 ++ p2)) + length (spelled p3) = spelled_both (p1 ++ p2) p3 in
    let t1 = bytes_short 1 m.header (omega arith) (omega (arith, a)) in
    let t2 = bytes_short 2 m.header_signature (omega arith) (omega (arith, b)) in
    let t3 = bytes_short 3 m.payload (omega arith) (omega (arith, c)) in
    omega (arith, s2, s3, t1, t2, t3, a, b, c)

-- the header of a batch of two transactions
pub batch_header_short : (m : BatchHeader) → length m.signer_public_key ≤ 66 → length m.transaction_ids ≡ 2
    → AllByRecursion (λ id. length id ≤ 128) m.transaction_ids → length (spelled (batch_header_pieces m)) ≤ 400
batch_header_short m a two ids =
    let p1 = bytes_pieces 1 m.signer_public_key in
    let p2 = texts_pieces 2 m.transaction_ids in
    let s2 : length (spelled (batch_header_pieces m)) ≡ length (spelled p1) + length (spelled p2) = spelled_both p1 p2 in
    let t1 = bytes_short 1 m.signer_public_key (omega arith) (omega (arith, a)) in
    let t2 = texts_short 2 128 m.transaction_ids (omega arith) (omega arith) ids in
    omega (arith, s2, t1, t2, a, two)

pub batch_short : (m : Batch) → length m.header ≤ 400 → length m.header_signature ≤ 128 → length m.transactions ≡ 2
    → AllByRecursion (λ tx. length (spelled (transaction_pieces tx)) ≤ 940) m.transactions → m.trace ≡ false → length (spelled (batch_pieces m)) ≤ 2500
batch_short m a b two txs untraced =
    let p1 = bytes_pieces 1 m.header in
    let p2 = bytes_pieces 2 m.header_signature in
    let p3 = items_pieces transaction_pieces 3 m.transactions in
    let s2 = spelled_both p1 p2 in
    let s3 = spelled_both (p1 ++ p2) p3 in
    let whole : length (spelled (batch_pieces m)) ≤ length (spelled (p1 ++ p2 ++ p3)) = rw untraced (last_none (p1 ++ p2 ++ p3)) in
    let t1 = bytes_short 1 m.header (omega arith) (omega (arith, a)) in
    let t2 = bytes_short 2 m.header_signature (omega arith) (omega (arith, b)) in
    let t3 = items_short transaction_pieces 3 940 m.transactions (omega arith) (omega arith) txs in
    omega (arith, s2, s3, whole, t1, t2, t3, a, b, two)
  where
    last_none : (pieces : List Piece) → length (spelled (pieces ++ [])) ≤ length (spelled pieces)
    last_none pieces = omega (arith, spelled_both pieces [])

-- ---- blocks

pub block_short : (m : Block) → length m.header ≤ 700000 → length m.header_signature ≤ 128 → length m.batches ≤ 5000
    → AllByRecursion (λ batch. length (spelled (batch_pieces batch)) ≤ 2500) m.batches → length (spelled (block_pieces m)) ≤ 16777216
block_short m a b few batches =
    let p1 = bytes_pieces 1 m.header in
    let p2 = bytes_pieces 2 m.header_signature in
    let p3 = items_pieces batch_pieces 3 m.batches in
    let s2 = spelled_both p1 p2 in
    let s3 : length (spelled (block_pieces m)) ≡ length (spelled (p1 ++ p2)) + length (spelled p3) = spelled_both (p1 ++ p2) p3 in
    let t1 = bytes_short 1 m.header (omega arith) (omega (arith, a)) in
    let t2 = bytes_short 2 m.header_signature (omega arith) (omega (arith, b)) in
    let t3 = items_short batch_pieces 3 2500 m.batches (omega arith) (omega arith) batches in
    omega (arith, s2, s3, t1, t2, t3, few, a, b)
