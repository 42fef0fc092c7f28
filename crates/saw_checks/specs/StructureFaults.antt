-- The first fault of a block's structure: its tests, in order.
use Rattle.std.specs.Prelude.{ℕ, ◌+◌, Bool, not, List, [], ◌∷◌, map, length, sum_by, Option, Some, None, option_map, Result, Ok, Err, nat_lt}
use Rattle.saw_address.specs.Texts.{is_hex_text}
use Rattle.saw_wire.specs.declared.fault.MessageFault.{MessageFault}
use Rattle.saw_messages.specs.Blocks.{block, block_header}
use Rattle.saw_messages.specs.declared.batch.Batch.{Batch}
use Rattle.saw_messages.specs.declared.block.Block.{Block}
use Rattle.saw_messages.specs.declared.block.BlockHeader.{BlockHeader}
use Rattle.saw_checks.specs.declared.fault.StructureFault.{StructureFault}
use Rattle.saw_checks.specs.declared.fault.StructureFault.TheVariants as faults
use Rattle.saw_checks.specs.Tests.{first_of, ◌<|>◌, first_difference}
use Rattle.saw_checks.specs.BatchFaults.{batch_fault}

-- how many transactions a block may have in all
abbrev pub max_transactions : ℕ
max_transactions = 20000

abbrev pub batch_ids_of : List Batch → List (List ℕ)
batch_ids_of batches = map (λ batch. batch.header_signature) batches

-- how many transactions batches have in all
abbrev pub transactions_count : List Batch → ℕ
transactions_count batches = sum_by (λ batch. length batch.transactions) batches

-- the tests of a block before those of its batches
abbrev pub block_tests : Block → BlockHeader → List (Bool × StructureFault)
block_tests b header =
    (not (is_hex_text 128 b.header_signature), faults.IdText)
    ∷ (not (is_hex_text 66 header.signer_public_key), faults.KeyText)
    ∷ (nat_lt max_transactions (transactions_count b.batches), faults.TooManyTransactions (transactions_count b.batches))
    ∷ []

module _ (accepts : List ℕ → List ℕ → List ℕ → Bool) where
  -- the first bad batch with its fault, of batches of which the first has index k
  abbrev pub batches_fault : ℕ → List Batch → Option StructureFault
  batches_fault k [] = None
  batches_fault k (batch ∷ batches) = option_map (faults.Batch k) (batch_fault accepts batch) <|> batches_fault (k + 1) batches

  abbrev pub structure_fault_by : Block → Result BlockHeader MessageFault → Option StructureFault
  structure_fault_by b (Err e) = Some (faults.Undecodable e)
  structure_fault_by b (Ok header) =
      first_of (block_tests b header)
      <|> option_map faults.BatchIds (first_difference header.batch_ids (batch_ids_of b.batches))
      <|> batches_fault 0 b.batches
      <|> first_of ((not (accepts header.signer_public_key b.header b.header_signature), faults.Signature) ∷ [])

  abbrev pub structure_fault_of : Result Block MessageFault → Option StructureFault
  structure_fault_of (Err e) = Some (faults.Undecodable e)
  structure_fault_of (Ok b) = structure_fault_by b (block_header b.header)

  -- the first fault of a block's bytes
  unfoldable pub structure_fault : List ℕ → Option StructureFault
  structure_fault bytes = structure_fault_of (block bytes)
