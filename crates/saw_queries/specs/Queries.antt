-- What blocks tell: their receipts, and which of them holds a batch.
use Rattle.std.specs.Prelude.{ℕ, Bool, List, Option}
use Rattle.std.specs.List.{flat_map, list_any, find}
use Rattle.std.specs.Str.{bytes_eq}
use Rattle.saw_messages.specs.declared.receipt.Receipt.{Receipt}
use Rattle.saw_receipts.specs.declared.block.BlockRecord.{BlockRecord}

-- the receipts of the blocks' batches, in order
abbrev pub branch_receipts : List BlockRecord → List Receipt
branch_receipts blocks = flat_map (λ block. flat_map (λ batch. batch.receipts) block.batches) blocks

-- whether one of the block's batches has this id
abbrev pub holds : BlockRecord → List ℕ → Bool
holds block id = list_any (λ batch. bytes_eq batch.id id) block.batches

-- the first of these blocks that holds the batch
abbrev pub block_with : List ℕ → List BlockRecord → Option BlockRecord
block_with id blocks = find (λ block. holds block id) blocks
