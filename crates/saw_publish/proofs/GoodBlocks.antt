-- The block of a draft is read back, and its structure has no fault.
use Rattle.std.proofs.Common.{◌≡◌, ◌<◌, ◌≤◌, ◌+◌, ◌^◌, ℕ, Bool, true, List, [], ◌∷◌, length, Option, Some, None, IfSome, Ok, refl, arith}
use Rattle.std.specs.List.{AllByRecursion}
use Rattle.std.proofs.lemmas.List.{length-map}
use Rattle.std.proofs.lemmas.List.Sums.{sum_by-cons}
use Rattle.hex.specs.Hex.{lower_digits}
use Rattle.hex.proofs.HexLemmas.{length-encode_with}
use Rattle.saw_address.specs.Texts.{is_hex_text}
use Rattle.saw_checks.proofs.Faultless.{faultless_block}
use Rattle.saw_checks.specs.Laws.{IsGoodBatch}
use Rattle.saw_checks.specs.StructureFaults.{batch_ids_of, structure_fault}
use Rattle.saw_messages.proofs.BlocksBack.{block_header_is_read, block_is_read}
use Rattle.saw_messages.specs.Blocks.{block, block_header, block_header_pieces, block_pieces}
use Rattle.saw_messages.specs.ReadBack.{IsBatch, IsBlockHeader, IsText}
use Rattle.saw_messages.specs.declared.batch.Batch.{Batch}
use Rattle.saw_messages.specs.declared.block.Block.{Block}
use Rattle.saw_messages.specs.declared.block.BlockHeader.{BlockHeader}
use Rattle.saw_node.specs.Hashes.{IsHash}
use Rattle.saw_node.specs.Trees.{root_of_map}
use Rattle.saw_receipts.specs.Branches.{no_block}
use Rattle.saw_receipts.specs.declared.block.Parent.{Parent}
use Rattle.saw_wire.specs.Writing.{spelled}
use Rattle.saw_publish.specs.Candidates.{Signing, block_of, content_of, header_of, number_behind, previous_of}
use Rattle.saw_publish.specs.Drafts.{Draft, draft_of}
use Rattle.saw_publish.specs.Laws.{CandidateIsGood, HasIdBefore, IsSignable, header_bytes}
use Rattle.saw_publish.specs.Room.{transactions_in}
use Rattle.saw_publish.proofs.Applied.{AreFit, applied_fit}
use Rattle.saw_publish.proofs.Fitting.{block_fits, header_fits}
use Rattle.saw_publish.proofs.HexTexts.{hash_text, hex_text, length-hex_text}
use Rattle.saw_publish.proofs.Sizes.{block_header_short}

-- ---- the header

number_fits : (parent : Option Parent) → IfSome parent (λ parent. parent.number + 1 < 2 ^ 64) → number_behind parent < 2 ^ 64
number_fits None number = omega arith
number_fits (Some parent) number = number

previous_text : (parent : Option Parent) → HasIdBefore parent → IsText (previous_of parent)
previous_text None form = hex_text 16 no_block refl
previous_text (Some parent) form = hex_text 128 parent.id form

pub previous_short : (parent : Option Parent) → HasIdBefore parent → length (previous_of parent) ≤ 128
previous_short None form = omega arith
previous_short (Some parent) form = omega (arith, length-hex_text 128 parent.id form)

-- each has a transaction, so there are no more batches than transactions
few_batches : (accepts : List ℕ → List ℕ → List ℕ → Bool) (batches : List Batch) → AllByRecursion (IsGoodBatch accepts) batches
    → length batches ≤ transactions_in batches
few_batches accepts [] good = omega arith
few_batches accepts (batch ∷ batches) good =
    let some = good.0.some in
    let rest = few_batches accepts batches good.1 in
    let sum = sum_by-cons (λ (batch : Batch). length batch.transactions) batch batches in
    omega (arith, some, rest, sum)

ids_short : (accepts : List ℕ → List ℕ → List ℕ → Bool) (batches : List Batch) → AllByRecursion (IsGoodBatch accepts) batches
    → AllByRecursion (λ id. length id ≤ 128) (batch_ids_of batches)
ids_short accepts [] good = tt
ids_short accepts (batch ∷ batches) good = (omega (arith, length-hex_text 128 batch.header_signature good.0.id), ids_short accepts batches good.1)

-- the header of a block with such batches is small
header_small : (accepts : List ℕ → List ℕ → List ℕ → Bool) (key : List ℕ) (parent : Option Parent) (batches : List Batch) (root : List ℕ)
    → is_hex_text 66 key ≡ true → HasIdBefore parent → IfSome parent (λ parent. parent.number + 1 < 2 ^ 64) → AreFit accepts batches → IsHash root
    → length (spelled (block_header_pieces (header_of key parent batches root))) < 2 ^ 64
header_small accepts key parent batches root is form number fit hash =
    let few = few_batches accepts batches fit.good in
    let count = fit.few in
    let many : length (batch_ids_of batches) ≡ length batches = length-map batches (λ (batch : Batch). batch.header_signature) in
    let short = block_header_short (header_of key parent batches root) 20000 (number_fits parent number) (previous_short parent form)
    (omega (arith, length-hex_text 66 key is)) (omega (arith, few, count, many)) (ids_short accepts batches fit.good) (omega arith)
    (omega (arith, length-encode_with lower_digits root, hash.size)) in
    omega (arith, short)

ids_texts : (batches : List Batch) → AllByRecursion IsBatch batches → AllByRecursion IsText (batch_ids_of batches)
ids_texts [] are = tt
ids_texts (batch ∷ batches) are = (are.0.header_signature, ids_texts batches are.1)

header_is : (m : BlockHeader) → m.block_num < 2 ^ 64 → IsText m.previous_block_id → is_hex_text 66 m.signer_public_key ≡ true
    → AllByRecursion IsText m.batch_ids → IsText m.state_root_hash → length (spelled (block_header_pieces m)) < 2 ^ 64 → IsBlockHeader m
header_is m number previous key ids root small = record {
  previous_block_id = previous;
  signer_public_key = hex_text 66 m.signer_public_key key;
  batch_ids = ids;
  state_root_hash = root;
  fits = header_fits m number small;
}

header_read : (key : List ℕ) (parent : Option Parent) (batches : List Batch) (root : List ℕ) → is_hex_text 66 key ≡ true
    → HasIdBefore parent → IfSome parent (λ parent. parent.number + 1 < 2 ^ 64) → AllByRecursion IsBatch batches → IsHash root
    → length (spelled (block_header_pieces (header_of key parent batches root))) < 2 ^ 64
    → block_header (spelled (block_header_pieces (header_of key parent batches root))) ≡ Ok (header_of key parent batches root)
header_read key parent batches root is form number are hash small =
    block_header_is_read (header_of key parent batches root)
    (header_is (header_of key parent batches root) (number_fits parent number) (previous_text parent form) is (ids_texts batches are)
    (hash_text root hash) small)

-- ---- the block

block_read : (accepts : List ℕ → List ℕ → List ℕ → Bool) (m : Block) → AreFit accepts m.batches → is_hex_text 128 m.header_signature ≡ true
    → length m.header < 2 ^ 64 → block (spelled (block_pieces m)) ≡ Ok m
block_read accepts m fit id small =
    let long = length-hex_text 128 m.header_signature id in
    let bytes = fit.small in
    block_is_read m (record {
      header_signature = hex_text 128 m.header_signature id;
      batches = fit.are;
      fits = block_fits m small (omega (arith, long)) (omega (arith, bytes));
    })

no_fault : (accepts : List ℕ → List ℕ → List ℕ → Bool) (bytes : List ℕ) (m : Block) (header : BlockHeader) → AreFit accepts m.batches → block bytes ≡ Ok m
    → block_header m.header ≡ Ok header → is_hex_text 128 m.header_signature ≡ true → is_hex_text 66 header.signer_public_key ≡ true
    → header.batch_ids ≡ batch_ids_of m.batches → accepts header.signer_public_key m.header m.header_signature ≡ true
    → structure_fault accepts bytes ≡ None
no_fault accepts bytes m header fit read header_read id key listed signed =
    (faultless_block accepts bytes).1 (record {
      read = m;
      header = header;
      decoded = read;
      header_decoded = header_read;
      id = id;
      key = key;
      few = fit.few;
      listed = listed;
      batches = fit.good;
      signed = signed;
    })

-- ---- the block of a draft

module _ (hash : List ℕ → List ℕ) (accepts : List ℕ → List ℕ → List ℕ → Bool) (signing : Signing) (parent : Option Parent) where
  pub good_block : (draft : Draft) → AreFit accepts draft.applied → HasIdBefore parent → IsSignable hash accepts signing parent draft
      → (block (content_of hash signing parent draft) ≡ Ok (block_of hash signing parent draft))
      × (block_header (header_bytes hash signing parent draft) ≡ Ok (header_of signing.key parent draft.applied (root_of_map hash draft.left)))
      × (structure_fault accepts (content_of hash signing parent draft) ≡ None)
  good_block draft fit named is =
      let root = root_of_map hash draft.left in
      let small = header_small accepts signing.key parent draft.applied root is.key named is.number fit (is.hashes _) in
      let read = block_read accepts (block_of hash signing parent draft) fit is.form small in
      let header = header_read signing.key parent draft.applied root is.key named is.number fit.are (is.hashes _) small in (
        read,
        header,
        no_fault accepts (content_of hash signing parent draft) (block_of hash signing parent draft)
            (header_of signing.key parent draft.applied (root_of_map hash draft.left)) fit read header is.form is.key refl is.signed,
      )

pub candidate_good : CandidateIsGood
candidate_good hash accepts policy signing parent runs before there batches are named is =
    good_block hash accepts signing parent (draft_of accepts policy signing.key runs before there batches)
    (applied_fit accepts policy signing.key runs before there batches are) named is
