-- What a checked block has in common with the block of its bytes.
use Rattle.std.proofs.Common.{◌≡◌, ℕ, ◌+◌, Bool, List, [], ◌∷◌, map, Option, Some, None, Ok, Err, refl, sym, ap, ◌∙◌}
use Rattle.std.specs.Prelude.{option_map}
use Rattle.saw_checks.specs.BatchFaults.{batch_fault}
use Rattle.saw_checks.specs.StructureFaults.{batch_ids_of, batches_fault, block_tests, structure_fault, structure_fault_by}
use Rattle.saw_checks.specs.Readings.{AreBatchesOf, IsBlockOf}
use Rattle.saw_checks.specs.Tests.{◌<|>◌, first_of, first_difference}
use Rattle.saw_checks.specs.declared.checked.CheckedBlock.{CheckedBlock}
use Rattle.saw_checks.specs.declared.fault.StructureFault.{StructureFault}
use Rattle.saw_checks.specs.declared.fault.StructureFault.TheVariants as faults
use Rattle.saw_messages.specs.Blocks.{block, block_header}
use Rattle.saw_messages.specs.declared.batch.Batch.{Batch}
use Rattle.saw_messages.specs.declared.block.Block.{Block}
use Rattle.saw_messages.specs.declared.block.BlockHeader.{BlockHeader}
use Rattle.saw_messages.specs.declared.tx.TxBatch.{TxBatch}
use Rattle.saw_receipts.proofs.ReadBatches.{batch_is}
use Rattle.saw_receipts.specs.declared.block.BlockRecord.{BlockRecord}
use Rattle.saw_receipts.specs.declared.verdict.BlockFault.TheVariants.{Structure}
use Rattle.saw_rules.specs.Policies.{Policy}
use Rattle.saw_address.specs.Maps.{StateMap}
use Rattle.saw_journal.specs.Judgement.{judged, judged_header, judged_parts, left_header, left_parts, rules_by, would_leave}
use Rattle.saw_receipts.specs.Running.{Runs}
use Rattle.saw_journal.specs.BlockShapes.{parts_in, parts_of}
use Rattle.saw_receipts.specs.Shapes.{batch_in}

pub neither : {F : Type 0} (a b : Option F) → (a <|> b) ≡ None → (a ≡ None) × (b ≡ None)
neither None b e = (refl, e)
neither (Some fault) b e = absurd cc

pub map_none : {A B : Type 0} (f : A → B) (o : Option A) → option_map f o ≡ None → o ≡ None
map_none f None e = refl
map_none f (Some x) e = absurd cc

module _ (accepts : List ℕ → List ℕ → List ℕ → Bool) where
  batches_are : (k : ℕ) (batches : List Batch) (reads : List TxBatch) → batches_fault accepts k batches ≡ None → AreBatchesOf batches reads
      → reads ≡ map batch_in batches
  batches_are k [] [] fine are = refl
  batches_are k [] (read ∷ reads) fine are = absurd are
  batches_are k (batch ∷ batches) [] fine are = absurd are
  batches_are k (batch ∷ batches) (read ∷ reads) fine are =
      let both = neither (option_map (faults.Batch k) (batch_fault accepts batch)) (batches_fault accepts (k + 1) batches) fine in
      rw (batch_is accepts batch read (map_none (faults.Batch k) (batch_fault accepts batch) both.0) are.0, batches_are (k + 1) batches reads both.1 are.1) refl

  fine_batches : (b : Block) (header : BlockHeader) (bytes : List ℕ) → block bytes ≡ Ok b → block_header b.header ≡ Ok header
      → structure_fault accepts bytes ≡ None → batches_fault accepts 0 b.batches ≡ None
  unfolding structure_fault
  fine_batches b header bytes decoded read fine =
      let said : structure_fault accepts bytes ≡ structure_fault_by accepts b (Ok header) = rw (decoded, read) refl in
      (neither (batches_fault accepts 0 b.batches) _ (neither
      (option_map faults.BatchIds (first_difference header.batch_ids (batch_ids_of b.batches))) _
      (neither (first_of (block_tests b header)) _ (sym said ∙ fine)).1).1).0

  pub same_parts : (bytes : List ℕ) (checked : CheckedBlock) (is : IsBlockOf bytes checked) → structure_fault accepts bytes ≡ None
      → parts_in checked ≡ parts_of is.read checked.header
  same_parts bytes checked is fine = rw (
    is.id,
    batches_are 0 is.read.batches checked.batches
        (fine_batches is.read checked.header bytes is.decoded is.header fine) is.batches,
  ) refl

  module _ (hash : List ℕ → List ℕ) (policy : Policy) (runs : Runs) (map_behind : Option BlockRecord → StateMap) (blocks : List BlockRecord) (content : List ℕ) where
    -- what comes of bytes without a structure fault is what comes of their checked block
    pub judged_is : (checked : CheckedBlock) → structure_fault accepts content ≡ None → IsBlockOf content checked
        → judged (rules_by hash accepts policy runs) map_behind blocks content ≡ judged_parts hash policy runs map_behind blocks (parts_in checked)
    unfolding judged
    judged_is checked fine is =
        let read : judged (rules_by hash accepts policy runs) map_behind blocks content ≡ judged_header hash policy runs map_behind blocks is.read
        (Ok checked.header) = rw (fine, is.decoded, is.header) refl in
        read ∙ ap (judged_parts hash policy runs map_behind blocks) (sym (same_parts content checked is fine))

    -- and so is what they would leave
    pub left_is : (checked : CheckedBlock) → structure_fault accepts content ≡ None → IsBlockOf content checked
        → would_leave (rules_by hash accepts policy runs) map_behind blocks content ≡ left_parts hash policy runs map_behind blocks (parts_in checked)
    unfolding would_leave
    left_is checked fine is =
        let read : would_leave (rules_by hash accepts policy runs) map_behind blocks content ≡ left_header hash policy runs map_behind blocks is.read
        (Ok checked.header) = rw (fine, is.decoded, is.header) refl in
        read ∙ ap (left_parts hash policy runs map_behind blocks) (sym (same_parts content checked is fine))

    -- and a structure fault is its fault
    pub judged_bad : (fault : StructureFault) → structure_fault accepts content ≡ Some fault
        → judged (rules_by hash accepts policy runs) map_behind blocks content ≡ Err (Structure fault)
    unfolding judged
    judged_bad fault bad = rw bad refl
