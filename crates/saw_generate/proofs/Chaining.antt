-- One block more of a stream, by its parts.
use Rattle.std.proofs.Common.{◌≡◌, ℕ, zero, suc, ◌+◌, ◌<◌, ◌^◌, List, [], map, Option, Some, None, refl, sym, ap, ap₂, subst, ◌∙◌, arith}
use Rattle.std.specs.Prelude.{IfSome}
use Rattle.saw_address.specs.Maps.{Entries, StateMap, map_of}
use Rattle.saw_context.specs.Serial.{left_after, serial}
use Rattle.saw_messages.specs.Blocks.{block_header_pieces, block_pieces}
use Rattle.saw_messages.specs.TxShapes.{TxShape}
use Rattle.saw_messages.specs.declared.batch.Batch.{Batch}
use Rattle.saw_node.specs.Hashes.{first_half}
use Rattle.saw_node.specs.Trees.{root_of_map}
use Rattle.saw_plan.specs.BatchShapes.{txs_of}
use Rattle.saw_publish.specs.Candidates.{Signing, header_of, signed_block}
use Rattle.saw_receipts.specs.Shapes.{batch_in}
use Rattle.saw_receipts.specs.declared.block.Parent.{Parent}
use Rattle.saw_station.specs.Serving.{alone}
use Rattle.saw_wire.specs.Writing.{spelled}
use Rattle.saw_generate.specs.Draws.{state_after}
use Rattle.saw_generate.specs.Operations.{draws_before}
use Rattle.saw_generate.specs.Streams.{batches_at, content_at, header_behind, map_after_blocks, parent_after, root_at}
use Rattle.saw_generate.specs.declared.wish.GenerateWish.{GenerateWish}

more_is : (b : ℕ) → suc b ≡ b + 1
more_is b = omega arith

-- nothing yet
pub begun : (signing : Signing) (wish : GenerateWish) (entries : Entries) (state : ℕ) → entries ≡ [] → state ≡ wish.start
    → (None ≡ parent_after signing wish 0) × (map_of entries ≡ map_after_blocks signing wish 0)
    × (state ≡ state_after wish.start (draws_before wish 0 0))
unfolding parent_after map_after_blocks state_after
begun signing wish entries state none first =
    let zero_drawn : 0 ≡ draws_before wish 0 0 = omega arith in
    (refl, ap map_of none, first ∙ ap (state_after wish.start) zero_drawn)

module _ (signing : Signing) (wish : GenerateWish) (b : ℕ) where
  -- the header by its parts
  header_is : (parent : Option Parent) (messages : List Batch) (root : List ℕ) → parent ≡ parent_after signing wish b
      → messages ≡ batches_at signing wish b → root ≡ root_at signing wish b
      → spelled (block_header_pieces (header_of signing.key parent messages root)) ≡ header_behind signing wish b (parent_after signing wish b)
  header_is parent messages root behind are under = rw (behind, are, under) refl

  pub content_is : (parent : Option Parent) (messages : List Batch) (root content : List ℕ) → parent ≡ parent_after signing wish b
      → messages ≡ batches_at signing wish b → root ≡ root_at signing wish b
      → content ≡ spelled (block_pieces (signed_block signing.signature (spelled (block_header_pieces (header_of signing.key parent messages root))) messages))
      → content ≡ content_at signing wish b
  content_is parent messages root content behind are under is =
      is ∙ ap₂ (λ (header : List ℕ) (batches : List Batch). spelled (block_pieces (signed_block signing.signature header batches)))
      (header_is parent messages root behind are under) are

  -- the block, as the one that the next stands behind
  pub parent_is : (parent : Option Parent) (messages : List Batch) (root id : List ℕ) → parent ≡ parent_after signing wish b
      → messages ≡ batches_at signing wish b → root ≡ root_at signing wish b
      → id ≡ signing.signature (spelled (block_header_pieces (header_of signing.key parent messages root)))
      → Some (record { number = b; id = id; root = root }) ≡ parent_after signing wish (b + 1)
  unfolding parent_after
  parent_is parent messages root id behind are under is =
      ap₂ (λ (i r : List ℕ). Some (record { number = b; id = i; root = r })) (is ∙ ap signing.signature (header_is parent messages root behind are under)) under
      ∙ ap (parent_after signing wish) (more_is b)

  -- the map that it leaves
  pub left_is : (before left : StateMap) (txs : List (List TxShape)) (messages : List Batch) → before ≡ map_after_blocks signing wish b
      → messages ≡ batches_at signing wish b → txs ≡ txs_of (map batch_in messages) → left ≡ left_after before (serial (alone []) before txs)
      → left ≡ map_after_blocks signing wish (b + 1)
  unfolding map_after_blocks
  left_is before left txs messages was are same is =
      is ∙ ap₂ (λ (m : StateMap) (batches : List (List TxShape)). left_after m (serial (alone []) m batches)) was
      (same ∙ ap (λ (l : List Batch). txs_of (map batch_in l)) are)
      ∙ ap (map_after_blocks signing wish) (more_is b)

  pub root_is : (left : StateMap) (root : List ℕ) → left ≡ map_after_blocks signing wish (b + 1) → root ≡ root_of_map first_half left
      → root ≡ root_at signing wish b
  root_is left root is under = under ∙ ap (root_of_map first_half) (is ∙ ap (map_after_blocks signing wish) (sym (more_is b)))

-- numbers are small
number_small : (signing : Signing) (wish : GenerateWish) (b : ℕ) → b < 2 ^ 32 → IfSome (parent_after signing wish b) (λ parent. parent.number + 1 < 2 ^ 64)
unfolding parent_after
number_small signing wish zero low = tt
number_small signing wish (suc b) low = omega arith

pub number_fits : (signing : Signing) (wish : GenerateWish) (b : ℕ) (parent : Option Parent) → parent ≡ parent_after signing wish b → b < 2 ^ 32
    → IfSome parent (λ parent. parent.number + 1 < 2 ^ 64)
number_fits signing wish b parent is low =
    subst (λ (p : Option Parent). IfSome p (λ parent. parent.number + 1 < 2 ^ 64)) (sym is) (number_small signing wish b low)
