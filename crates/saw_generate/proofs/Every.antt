-- Every batch of a generated stream applies.
use Rattle.std.proofs.Common.{◌≡◌, ℕ, zero, suc, ◌<◌, ◌≤◌, true, List, [], ◌∷◌, map, None, refl, sym, ap, ap₂, subst, ◌∙◌, arith}
use Rattle.std.specs.List.{AllByRecursion, range_with_len}
use Rattle.saw_address.specs.Maps.{StateMap, value_at}
use Rattle.saw_address.specs.Texts.{is_hex_text}
use Rattle.saw_context.specs.Serial.{left_after, serial}
use Rattle.saw_messages.specs.TxShapes.{TxShape, shape_in}
use Rattle.saw_plan.specs.BatchShapes.{txs_of}
use Rattle.saw_publish.specs.Candidates.{Signing}
use Rattle.saw_receipts.specs.Shapes.{batch_in}
use Rattle.saw_station.specs.Serving.{alone}
use Rattle.saw_generate.specs.Laws.{EveryBatchApplies, IsApplied, results_at}
use Rattle.saw_generate.specs.Operations.{first_of, second_of}
use Rattle.saw_generate.specs.Signed.{batch_at, nonce_at, transaction}
use Rattle.saw_generate.specs.Streams.{batches_at, map_after_blocks}
use Rattle.saw_generate.specs.declared.wish.GenerateWish.{GenerateWish}
use Rattle.saw_generate.proofs.Blocks.{every_batch, none_set}
use Rattle.saw_generate.proofs.Reading.{is_for, is_nonce}
use Rattle.saw_generate.proofs.Shapes.{IsBatch, batches_by, map_behind}

module _ (signing : Signing) (wish : GenerateWish) where
  -- the transactions of a batch by themselves
  abbrev txs_at : ℕ → ℕ → List TxShape
  txs_at b k = map shape_in (batch_at signing wish b k).transactions

  each : (b : ℕ) (places : List ℕ) → txs_of (map batch_in (map (batch_at signing wish b) places)) ≡ map (txs_at b) places
  each b [] = refl
  each b (k ∷ places) = ap (λ (others : List (List TxShape)). txs_at b k ∷ others) (each b places)

  same_batches : (b : ℕ) → txs_of (map batch_in (batches_at signing wish b)) ≡ batches_by txs_at wish b
  same_batches b = each b (range_with_len 0 wish.batches)

  same_map : (b : ℕ) → map_after_blocks signing wish b ≡ map_behind txs_at wish b
  unfolding map_after_blocks map_behind
  same_map zero = refl
  same_map (suc b) =
      ap₂ (λ (m : StateMap) (batches : List (List TxShape)). left_after m (serial (alone []) m batches)) (same_map b) (same_batches b)

  module _ (key : is_hex_text 66 signing.key ≡ true) (blocks : wish.blocks ≤ 1000) (batches : wish.batches ≤ 5000) where
    are : (b k : ℕ) → b < wish.blocks → k < wish.batches → IsBatch wish b k (txs_at b k)
    are b k low small = record {
      first = shape_in (transaction signing (nonce_at b k 0) (first_of wish b k));
      second = shape_in (transaction signing (nonce_at b k 1) (second_of wish b k));
      both = refl;
      sets = is_for signing key (nonce_at b k 0) (is_nonce b k 0 (omega (arith, blocks)) (omega (arith, batches)) (omega arith)) (first_of wish b k);
      adds = is_for signing key (nonce_at b k 1) (is_nonce b k 1 (omega (arith, blocks)) (omega (arith, batches)) (omega arith)) (second_of wish b k);
    }

    all_apply : (b : ℕ) → b < wish.blocks → AllByRecursion IsApplied (results_at signing wish b)
    all_apply b low =
        subst (AllByRecursion IsApplied)
        (sym (ap₂ (λ (m : StateMap) (others : List (List TxShape)). serial (alone []) m others) (same_map b) (same_batches b)))
        (every_batch wish txs_at blocks batches are b low)

pub every_batch_applies : EveryBatchApplies
every_batch_applies signing wish key blocks batches b low = all_apply signing wish key blocks batches b low

-- and no setting is set behind any block
pub no_setting : (signing : Signing) (wish : GenerateWish) → is_hex_text 66 signing.key ≡ true → wish.blocks ≤ 1000 → wish.batches ≤ 5000
    → (b : ℕ) → b < wish.blocks → (tail : List ℕ) → value_at (map_after_blocks signing wish b) (0 ∷ tail) ≡ None
no_setting signing wish key blocks batches b low tail =
    ap (λ m. value_at m (0 ∷ tail)) (same_map signing wish b)
    ∙ none_set wish (txs_at signing wish) blocks batches (are signing wish key blocks batches) b low tail
