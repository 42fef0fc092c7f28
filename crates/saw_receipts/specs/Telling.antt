-- Whether batches and blocks go to deterministic processors.
use Rattle.std.specs.Prelude.{ℕ, Bool, true, List, map, Result, Ok, Err}
use Rattle.saw_context.specs.Outcome.{Processors}
use Rattle.saw_context.specs.Possible.{are_told}
use Rattle.saw_messages.specs.Blocks.{block}
use Rattle.saw_messages.specs.declared.batch.Batch.{Batch}
use Rattle.saw_messages.specs.declared.block.Block.{Block}
use Rattle.saw_plan.specs.BatchShapes.{txs_of}
use Rattle.saw_receipts.specs.Shapes.{batch_in}
use Rattle.saw_wire.specs.declared.fault.MessageFault.{MessageFault}

module _ (processors : Processors) where
  -- whether each transaction of the batches does
  abbrev pub tell_batches : List Batch → Bool
  tell_batches batches = are_told processors (txs_of (map batch_in batches))

  -- the same of a block as it was read; what is no block goes to nobody
  abbrev pub tell_read : Result Block MessageFault → Bool
  tell_read (Ok b) = tell_batches b.batches
  tell_read (Err fault) = true

  -- of the bytes of a block
  abbrev pub tell_block : List ℕ → Bool
  tell_block content = tell_read (block content)
