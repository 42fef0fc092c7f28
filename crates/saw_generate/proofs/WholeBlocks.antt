-- The blocks of a stream where their signatures are accepted: they have no structure fault, each fits in a frame, the static
-- rules drop no batch, and none fails.
use Rattle.std.proofs.Common.{◌≡◌, ◌<◌, ◌≤◌, ◌+◌, ℕ, zero, suc, Bool, true, List, [], ◌∷◌, length, map, None, Ok, refl, arith}
use Rattle.std.specs.List.{AllByRecursion, range_with_len}
use Rattle.std.proofs.lemmas.List.{length-map}
use Rattle.std.proofs.lemmas.List.Elements.{All-from_recursion}
use Rattle.std.proofs.lemmas.List.FromFn.{length-map-range_with_len}
use Rattle.std.proofs.lemmas.List.Sums.{sum_by-le}
use Rattle.hex.specs.Hex.{lower_digits}
use Rattle.hex.proofs.HexLemmas.{length-encode_with}
use Rattle.saw_address.specs.Texts.{is_hex_text}
use Rattle.saw_checks.specs.Laws.{IsGoodBatch}
use Rattle.saw_checks.specs.StructureFaults.{structure_fault}
use Rattle.saw_context.proofs.Each.{all_map, all_weaker}
use Rattle.saw_context.specs.declared.batch_result.BatchResult.{BatchResult}
use Rattle.saw_context.specs.declared.batch_result.BatchResult.TheVariants.{Applied, Failed}
use Rattle.saw_messages.specs.Batches.{batch_pieces}
use Rattle.saw_messages.specs.Blocks.{block, block_header}
use Rattle.saw_messages.specs.ReadBack.{IsBatch}
use Rattle.saw_messages.specs.declared.batch.Batch.{Batch}
use Rattle.saw_node.specs.Hashes.{IsHash, first_half, first_half_is}
use Rattle.saw_publish.proofs.Applied.{AreFit}
use Rattle.saw_publish.proofs.GoodBlocks.{good_block, previous_short}
use Rattle.saw_publish.proofs.HexTexts.{length-hex_text}
use Rattle.saw_publish.proofs.Sizes.{block_header_short}
use Rattle.saw_publish.specs.Candidates.{Signing, header_of, number_behind}
use Rattle.saw_publish.specs.Drafts.{Draft}
use Rattle.saw_publish.specs.Laws.{HasIdBefore, IsSignable}
use Rattle.saw_schedule.specs.BatchResults.{first_failure}
use Rattle.saw_wire.specs.Writing.{spelled}
use Rattle.saw_generate.specs.Laws.{IsApplied}
use Rattle.saw_generate.specs.Operations.{first_of, second_of}
use Rattle.saw_generate.specs.Signed.{batch_at, nonce_at}
use Rattle.saw_generate.specs.Streams.{batches_at, block_at, content_at, header_behind, map_after_blocks, parent_after, root_at}
use Rattle.saw_generate.specs.declared.wish.GenerateWish.{GenerateWish}
use Rattle.saw_generate.proofs.Chaining.{number_fits}
use Rattle.saw_generate.proofs.FineBatches.{AreVouched, DoDiffer, IsFineBatch, IsVouched, batch_fine, id_short}
use Rattle.saw_generate.proofs.FreshIds.{IsFree}
use Rattle.saw_generate.proofs.Places.{all_mapped, all_places, at_place}
use Rattle.saw_generate.proofs.Reading.{is_for, is_nonce}
use Rattle.saw_generate.proofs.Sizes.{block_short}

-- ---- the block before

pub number_is : (signing : Signing) (wish : GenerateWish) (b : ℕ) → number_behind (parent_after signing wish b) ≡ b
unfolding parent_after
number_is signing wish zero = refl
number_is signing wish (suc b) = omega arith

-- ---- results

-- where all are applied none failed
pub none_failed : (place : ℕ) (results : List BatchResult) → AllByRecursion IsApplied results → first_failure place results ≡ None
none_failed place [] all = refl
none_failed place (Applied outcomes ∷ results) all = none_failed (place + 1) results all.1
none_failed place (Failed t reason ∷ results) all = absurd all.0

-- ---- a block

-- all that is signed for a block is vouched for, and the transactions of each batch have different ids
pub record IsSigned (accepts : List ℕ → List ℕ → List ℕ → Bool) (signing : Signing) (wish : GenerateWish) (b : ℕ) : Type 0 where
  pub batches : AllByRecursion (AreVouched accepts signing) (batches_at signing wish b)
  pub header : IsVouched accepts signing (header_behind signing wish b (parent_after signing wish b))
  pub differ : AllByRecursion DoDiffer (batches_at signing wish b)

module _ (signing : Signing) (wish : GenerateWish) (key : is_hex_text 66 signing.key ≡ true) (few : wish.blocks ≤ 1000) (narrow : wish.batches ≤ 5000) where
  batch_free : (b k : ℕ) → b < wish.blocks → k < wish.batches → IsFree (batch_at signing wish b k)
  batch_free b k low small =
      let one = is_nonce b k 0 (omega (arith, few, low)) (omega (arith, narrow, small)) (omega arith) in
      let other = is_nonce b k 1 (omega (arith, few, low)) (omega (arith, narrow, small)) (omega arith) in (
        (is_for signing key (nonce_at b k 0) one (first_of wish b k)).free,
        ((is_for signing key (nonce_at b k 1) other (second_of wish b k)).free, tt),
      )

  -- the batches name no dependencies
  pub batches_free : (b : ℕ) → b < wish.blocks → AllByRecursion IsFree (batches_at signing wish b)
  batches_free b low =
      all_map (batch_at signing wish b) IsFree (range_with_len 0 wish.batches)
      (all_places (λ k. IsFree (batch_at signing wish b k)) wish.batches (λ k small. batch_free b k low small))

  module _ (accepts : List ℕ → List ℕ → List ℕ → Bool) (signed : (b : ℕ) → b < wish.blocks → IsSigned accepts signing wish b) where
    parent_form : (b : ℕ) → b ≤ wish.blocks → HasIdBefore (parent_after signing wish b)
    unfolding parent_after
    parent_form zero low = tt
    parent_form (suc b) low = (signed b (omega (arith, low))).header.form

    module _ (b : ℕ) (low : b < wish.blocks) where
      abbrev batches : List Batch
      batches = batches_at signing wish b

      count : length batches ≡ wish.batches
      count = length-map-range_with_len (batch_at signing wish b) 0 wish.batches

      all_fine : AllByRecursion (IsFineBatch accepts signing) batches
      all_fine =
          let places = range_with_len 0 wish.batches in
          let vouched = all_mapped (batch_at signing wish b) (AreVouched accepts signing) places (signed b low).batches in
          let differ = all_mapped (batch_at signing wish b) DoDiffer places (signed b low).differ in
          all_map (batch_at signing wish b) (IsFineBatch accepts signing) places
          (all_places (λ k. IsFineBatch accepts signing (batch_at signing wish b k)) wish.batches (λ k small.
          batch_fine accepts signing key wish b k (omega (arith, few, low)) (omega (arith, narrow, small))
          (at_place (λ k. AreVouched accepts signing (batch_at signing wish b k)) wish.batches k small vouched)
          (at_place (λ k. DoDiffer (batch_at signing wish b k)) wish.batches k small differ)))

      -- what is so of each fine batch
      each : (P : Batch → Type 0) → ((batch : Batch) → IsFineBatch accepts signing batch → P batch) → AllByRecursion P batches
      each P so = all_weaker (IsFineBatch accepts signing) P so batches all_fine

      fit : AreFit accepts batches
      fit =
          let txs = sum_by-le (λ (batch : Batch). length batch.transactions) 2 batches
          (All-from_recursion (λ (batch : Batch). length batch.transactions ≤ 2) batches
          (each (λ batch. length batch.transactions ≤ 2) (λ batch fine. omega (arith, fine.two)))) in
          let bytes = sum_by-le (λ (batch : Batch). length (spelled (batch_pieces batch))) 2500 batches
          (All-from_recursion (λ (batch : Batch). length (spelled (batch_pieces batch)) ≤ 2500) batches
          (each (λ batch. length (spelled (batch_pieces batch)) ≤ 2500) (λ batch fine. fine.small))) in
          record {
            are = each IsBatch (λ batch fine. fine.is);
            good = each (IsGoodBatch accepts) (λ batch fine. fine.good);
            few = omega (arith, txs, count, narrow);
            small = omega (arith, bytes, count, narrow);
          }

      header_small : length (header_behind signing wish b (parent_after signing wish b)) ≤ 700000
      header_small =
          let root : IsHash (root_at signing wish b) = first_half_is _ in
          let ids = map (λ (batch : Batch). batch.header_signature) batches in
          let many : length ids ≡ length batches = length-map batches (λ (batch : Batch). batch.header_signature) in
          let short = block_header_short (header_of signing.key (parent_after signing wish b) batches (root_at signing wish b)) 5000
          (omega (arith, number_is signing wish b, few, low))
          (previous_short (parent_after signing wish b) (parent_form b (omega (arith, low)))) (omega (arith, length-hex_text 66 signing.key key))
          (omega (arith, many, count, narrow))
          (all_map (λ (batch : Batch). batch.header_signature) (λ id. length id ≤ 128) batches
          (each (λ batch. length batch.header_signature ≤ 128) (λ batch fine. id_short batch.header_signature fine.good.id)))
          (omega arith) (omega (arith, length-encode_with lower_digits (root_at signing wish b), root.size)) in
          omega (arith, short)

      -- its batches, and the map that they leave
      abbrev draft : Draft
      draft = record { fates = []; applied = batches; left = map_after_blocks signing wish (suc b) }

      signable : IsSignable first_half accepts signing (parent_after signing wish b) draft
      signable = record {
        hashes = first_half_is;
        key = key;
        form = (signed b low).header.form;
        signed = (signed b low).header.signed;
        number = number_fits signing wish b (parent_after signing wish b) refl (omega (arith, few, low));
      }

      -- it is read back, and has no structure fault
      pub block_good : (block (content_at signing wish b) ≡ Ok (block_at signing wish b))
          × (block_header (block_at signing wish b).header ≡ Ok (header_of signing.key (parent_after signing wish b) batches (root_at signing wish b)))
          × (structure_fault accepts (content_at signing wish b) ≡ None)
      block_good = good_block first_half accepts signing (parent_after signing wish b) draft fit (parent_form b (omega (arith, low))) signable

      pub content_small : length (content_at signing wish b) ≤ 16777216
      content_small =
          block_short (block_at signing wish b) header_small (id_short (block_at signing wish b).header_signature (signed b low).header.form)
          (omega (arith, count, narrow)) (each (λ batch. length (spelled (batch_pieces batch)) ≤ 2500) (λ batch fine. fine.small))
