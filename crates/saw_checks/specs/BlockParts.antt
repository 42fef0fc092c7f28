-- What the parts of a block's check answer.
use Rattle.std.specs.Prelude.{◌≡◌, ◌⊎◌, ℕ, ◌+◌, Bool, not, List, [], ◌∷◌, Option, Some, None, option_map, Result, Ok, Err}
use Rattle.saw_wire.specs.declared.fault.MessageFault.{MessageFault}
use Rattle.saw_wire.specs.declared.fault.MessageFault.TheVariants as messages
use Rattle.saw_messages.specs.declared.batch.Batch.{Batch}
use Rattle.saw_messages.specs.declared.block.Block.{Block}
use Rattle.saw_messages.specs.declared.block.BlockHeader.{BlockHeader}
use Rattle.saw_messages.specs.declared.tx.TxBatch.{TxBatch}
use Rattle.saw_checks.specs.declared.fault.StructureFault.{StructureFault}
use Rattle.saw_checks.specs.declared.fault.StructureFault.TheVariants as faults
use Rattle.saw_checks.specs.declared.judged.Judged.{Judged}
use Rattle.saw_checks.specs.declared.judged.Judged.TheVariants.{Good, Bad}
use Rattle.saw_checks.specs.Tests.{first_of, first_difference}
use Rattle.saw_checks.specs.StructureFaults.{batch_ids_of, batches_fault}
use Rattle.saw_checks.specs.Readings.{AreBatchesOf}

-- a want of memory stays one, and any other fault makes the block undecodable
abbrev pub undecodable : MessageFault → StructureFault
undecodable (messages.Wire fault) = faults.Undecodable (messages.Wire fault)
undecodable (messages.NotUtf8 field) = faults.Undecodable (messages.NotUtf8 field)
undecodable messages.OutOfMemory = faults.OutOfMemory

-- the first place at which the listed ids and the batches' differ
abbrev pub batch_ids_fault : Block → BlockHeader → Option StructureFault
batch_ids_fault block header = option_map faults.BatchIds (first_difference header.batch_ids (batch_ids_of block.batches))

-- the first bad one of judged batches, of which the first has index k
abbrev pub first_bad : ℕ → List Judged → Option StructureFault
first_bad k [] = None
first_bad k (Good read ∷ others) = first_bad (k + 1) others
first_bad k (Bad fault ∷ others) = Some (faults.Batch k fault)

-- what was read of the good ones
abbrev pub reads_of : List Judged → List TxBatch
reads_of [] = []
reads_of (Good read ∷ others) = read ∷ reads_of others
reads_of (Bad fault ∷ others) = reads_of others

-- what judged batches give: all that were read, or the first that is bad
abbrev pub JudgedGive : List Judged → Result (List TxBatch) StructureFault → Type 0
JudgedGive judged (Ok reads) = (first_bad 0 judged ≡ None) × (reads ≡ reads_of judged)
JudgedGive judged (Err e) = (e ≡ faults.OutOfMemory) ⊎ (first_bad 0 judged ≡ Some e)

module _ (accepts : List ℕ → List ℕ → List ℕ → Bool) where
  -- the signer's signature over the header
  abbrev pub block_signature_fault : Block → BlockHeader → Option StructureFault
  block_signature_fault block header = first_of ((not (accepts header.signer_public_key block.header block.header_signature), faults.Signature) ∷ [])

  -- what a check of all batches answers
  abbrev pub BatchesGive : List Batch → Result (List TxBatch) StructureFault → Type 0
  BatchesGive batches (Ok reads) = (batches_fault accepts 0 batches ≡ None) × AreBatchesOf batches reads
  BatchesGive batches (Err e) = (e ≡ faults.OutOfMemory) ⊎ (batches_fault accepts 0 batches ≡ Some e)
