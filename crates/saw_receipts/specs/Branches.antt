-- Branches of accepted blocks, which are listed in order of arrival.
use Rattle.std.specs.Prelude.{ℕ, Bool, List, [], ◌∷◌, ◌++◌, map, reverse, Option, Some, None, codes, if◌then◌else◌}
use Rattle.std.specs.List.{flat_map, list_any}
use Rattle.std.specs.Str.{bytes_eq}
use Rattle.saw_plan.specs.StaticRules.{Ids}
use Rattle.saw_receipts.specs.declared.block.BatchRecord.{BatchRecord}
use Rattle.saw_receipts.specs.declared.block.BlockRecord.{BlockRecord}

-- what a first block states as the id of the block before it
abbrev pub no_block : List ℕ
no_block = codes "0000000000000000"

-- whether an accepted block has this id
abbrev pub has_block : List BlockRecord → List ℕ → Bool
has_block blocks id = list_any (λ block. bytes_eq block.id id) blocks

-- whether a first block was accepted
abbrev pub has_first : List BlockRecord → Bool
has_first blocks = list_any (λ block. bytes_eq block.previous no_block) blocks

-- the accepted block with this id
abbrev pub block_at : List BlockRecord → List ℕ → Option BlockRecord
block_at [] id = None
block_at (block ∷ blocks) id = if bytes_eq block.id id then Some block else block_at blocks id

module _ {A : Type 0} (record_of : A → BlockRecord) where
  -- the branch that ends with this id, of blocks of which the latest comes first: the block with the id stands behind the
  -- branch of the one before it, which arrived earlier
  abbrev pub branch_back : List A → List ℕ → List A
  branch_back [] id = []
  branch_back (latest ∷ earlier) id =
      if bytes_eq (record_of latest).id id then branch_back earlier (record_of latest).previous ++ latest ∷ [] else branch_back earlier id

  -- the branch of the block with this id: the blocks from the first one to it, by the ids of the blocks before them
  abbrev pub branch_of : List A → List ℕ → List A
  branch_of blocks id = branch_back (reverse blocks) id

-- the ids of batches, and of their transactions
abbrev pub batch_ids : List BatchRecord → Ids
batch_ids batches = record {
  batches = map (λ batch. batch.id) batches;
  transactions = flat_map (λ batch. map (λ receipt. receipt.transaction_id) batch.receipts) batches;
}

-- the same of the batches of blocks
abbrev pub ids_in : List BlockRecord → Ids
ids_in blocks = record {
  batches = flat_map (λ block. (batch_ids block.batches).batches) blocks;
  transactions = flat_map (λ block. (batch_ids block.batches).transactions) blocks;
}
