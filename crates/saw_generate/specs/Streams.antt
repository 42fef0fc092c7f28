-- The generated stream: block behind block, each with the root that running its batches leaves.
use Rattle.std.specs.Prelude.{ℕ, zero, suc, List, [], map, Option, Some, None}
use Rattle.std.specs.List.{flat_map, range_with_len}
use Rattle.saw_address.specs.Maps.{StateMap, no_entries}
use Rattle.saw_context.specs.Serial.{left_after, serial}
use Rattle.saw_io.specs.Frame.{frame}
use Rattle.saw_messages.specs.Blocks.{block_header_pieces, block_pieces}
use Rattle.saw_messages.specs.declared.batch.Batch.{Batch}
use Rattle.saw_messages.specs.declared.block.Block.{Block}
use Rattle.saw_node.specs.Hashes.{first_half}
use Rattle.saw_node.specs.Trees.{root_of_map}
use Rattle.saw_plan.specs.BatchShapes.{txs_of}
use Rattle.saw_publish.specs.Candidates.{Signing, header_of, signed_block}
use Rattle.saw_receipts.specs.Shapes.{batch_in}
use Rattle.saw_receipts.specs.declared.block.Parent.{Parent}
use Rattle.saw_station.specs.Serving.{alone}
use Rattle.saw_wire.specs.Writing.{spelled}
use Rattle.saw_generate.specs.Signed.{batch_at}
use Rattle.saw_generate.specs.declared.wish.GenerateWish.{GenerateWish}

-- the map that batches leave, run one after another by the built-in processors
abbrev pub left_by : StateMap → List Batch → StateMap
left_by m batches = left_after m (serial (alone []) m (txs_of (map batch_in batches)))

module _ (signing : Signing) (wish : GenerateWish) where
  -- the batches of block b
  abbrev pub batches_at : ℕ → List Batch
  batches_at b = map (batch_at signing wish b) (range_with_len 0 wish.batches)

  -- the map that so many blocks leave
  unfoldable pub map_after_blocks : ℕ → StateMap
  map_after_blocks zero = no_entries
  map_after_blocks (suc b) = left_by (map_after_blocks b) (batches_at b)

  abbrev pub root_at : ℕ → List ℕ
  root_at b = root_of_map first_half (map_after_blocks (suc b))

  -- the bytes of the header of block b behind a parent
  abbrev pub header_behind : ℕ → Option Parent → List ℕ
  header_behind b parent = spelled (block_header_pieces (header_of signing.key parent (batches_at b) (root_at b)))

  -- the last of so many blocks
  unfoldable pub parent_after : ℕ → Option Parent
  parent_after zero = None
  parent_after (suc b) = Some (record { number = b; id = signing.signature (header_behind b (parent_after b)); root = root_at b })

  -- block b
  abbrev pub block_at : ℕ → Block
  block_at b = signed_block signing.signature (header_behind b (parent_after b)) (batches_at b)

  -- its bytes
  abbrev pub content_at : ℕ → List ℕ
  content_at b = spelled (block_pieces (block_at b))

  -- the frames of so many blocks, one after another
  abbrev pub frames_of : ℕ → List ℕ
  frames_of count = flat_map (λ b. frame (content_at b)) (range_with_len 0 count)

  -- the whole stream
  abbrev pub stream : List ℕ
  stream = frames_of wish.blocks
