-- What is said of a vouched stream as a whole, of each of its blocks.
use Rattle.std.proofs.Common.{◌≡◌, ◌<◌, ℕ, true, false, List, [], ◌∷◌, ◌++◌, map}
use Rattle.std.specs.List.{AllByRecursion, flat_map, list_any, range_with_len}
use Rattle.std.specs.Str.{bytes_eq}
use Rattle.saw_address.specs.Texts.{is_hex_text}
use Rattle.saw_checks.specs.BatchFaults.{ids_of}
use Rattle.saw_context.proofs.Each.{all_both, all_left, all_right}
use Rattle.saw_generate.proofs.FineBatches.{IsVouched}
use Rattle.saw_generate.proofs.Places.{all_parts, at_place, distinct_back, distinct_parts, id_is_new, parts_differ}
use Rattle.saw_generate.proofs.WholeBlocks.{IsSigned}
use Rattle.saw_generate.specs.Streams.{batches_at, block_at}
use Rattle.saw_generate.specs.declared.wish.GenerateWish.{GenerateWish}
use Rattle.saw_messages.specs.Distinct.{are_distinct}
use Rattle.saw_messages.specs.declared.batch.Batch.{Batch}
use Rattle.saw_publish.specs.Candidates.{Signing}
use Rattle.saw_top.specs.GeneratedLaws.{IsVouchedFor, batch_ids_at, places, signed_at, signed_for, transaction_ids_at}
use Rattle.saw_top.specs.World.{Accepts}

-- the id of a block
abbrev pub id_at : Signing → GenerateWish → ℕ → List ℕ
id_at signing wish b = (block_at signing wish b).header_signature

module _ (accepts : Accepts) (signing : Signing) (wish : GenerateWish) (vouched : IsVouchedFor signing wish accepts) where
  abbrev Vouched : List ℕ → Type 0
  Vouched message = IsVouched accepts signing message

  all_vouched : AllByRecursion Vouched (flat_map (signed_at signing wish) (places signing wish))
  all_vouched =
      all_both (λ message. is_hex_text 128 (signing.signature message) ≡ true)
      (λ message. accepts signing.key message (signing.signature message) ≡ true) Vouched
      (λ message form signed. record { form = form; signed = signed }) (flat_map (signed_at signing wish) (places signing wish)) vouched.form vouched.signed

  module _ (b : ℕ) (low : b < wish.blocks) where
    block_vouched : AllByRecursion Vouched (signed_at signing wish b)
    block_vouched =
        at_place (λ b. AllByRecursion Vouched (signed_at signing wish b)) wish.blocks b low
        (all_parts (signed_at signing wish) Vouched (places signing wish) all_vouched)

    -- the ids of its transactions differ from one another and from those before it
    pub transactions_differ : are_distinct (flat_map (transaction_ids_at signing wish) (range_with_len 0 b) ++ transaction_ids_at signing wish b) ≡ true
    transactions_differ = parts_differ (transaction_ids_at signing wish) wish.blocks b low vouched.transactions

    -- and so do those of its batches
    pub batches_differ : are_distinct (flat_map (batch_ids_at signing wish) (range_with_len 0 b) ++ batch_ids_at signing wish b) ≡ true
    batches_differ = parts_differ (batch_ids_at signing wish) wish.blocks b low vouched.batches

    -- its own id is none of those before it
    pub block_is_new : list_any (λ other. bytes_eq other (id_at signing wish b)) (map (id_at signing wish) (range_with_len 0 b)) ≡ false
    block_is_new = id_is_new (id_at signing wish) wish.blocks b low vouched.blocks

    -- what is signed for it is vouched for
    pub block_signed : IsSigned accepts signing wish b
    block_signed =
        let batches = batches_at signing wish b in
        let front = flat_map (signed_for signing wish) batches in
        let header = (block_at signing wish b).header ∷ [] in
        record {
          batches = all_parts (signed_for signing wish) Vouched batches (all_left Vouched front header block_vouched);
          header = (all_right Vouched front header block_vouched).0;
          differ = distinct_parts (λ (batch : Batch). ids_of batch.transactions) batches
              (distinct_back (flat_map (transaction_ids_at signing wish) (range_with_len 0 b)) (transaction_ids_at signing wish b) transactions_differ);
        }
