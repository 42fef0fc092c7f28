-- The tests of a block, one group after another.
use Rattle.std.proofs.Common.{◌≡◌, ◌⊎◌, ℕ, Bool, List, Option, Some, None, Result, Ok, Err, refl, ap, ◌∙◌, inl, inr}
use Rattle.saw_wire.specs.MessageFaults.{IsReading}
use Rattle.saw_wire.specs.declared.fault.MessageFault.{MessageFault}
use Rattle.saw_wire.specs.declared.fault.MessageFault.TheVariants.{Wire, NotUtf8, OutOfMemory}
use Rattle.saw_messages.specs.Blocks.{block, block_header}
use Rattle.saw_messages.specs.declared.block.Block.{Block}
use Rattle.saw_messages.specs.declared.block.BlockHeader.{BlockHeader}
use Rattle.saw_checks.specs.declared.fault.StructureFault.{StructureFault}
use Rattle.saw_checks.specs.declared.fault.StructureFault.TheVariants as faults
use Rattle.saw_checks.specs.Tests.{first_of, ◌<|>◌}
use Rattle.saw_checks.specs.StructureFaults.{block_tests, batches_fault, structure_fault_by, structure_fault_of, structure_fault}
use Rattle.saw_checks.specs.Readings.{BlockGives}
use Rattle.saw_checks.specs.BlockParts.{undecodable, batch_ids_fault, block_signature_fault}
use Rattle.saw_checks.proofs.Chains.{at_first, at_second, at_third, at_fourth}

-- a fault of reading is told, unless memory ran out
unread : {A : Type 0} (e : MessageFault) (read : Result A MessageFault) → IsReading (Err e) read → (undecodable e ≡ faults.OutOfMemory)
    ⊎ ((read ≡ Err e) × (undecodable e ≡ faults.Undecodable e))
unread OutOfMemory read gives = inl refl
unread (Wire fault) read (inl memory) = cc
unread (Wire fault) read (inr bad) = inr (bad, refl)
unread (NotUtf8 field) read (inl memory) = cc
unread (NotUtf8 field) read (inr bad) = inr (bad, refl)

told : {A B : Type 0} (total : B) (told_by : Result A MessageFault → B) (e : MessageFault) (some : StructureFault → B) (read : Result A MessageFault)
    → total ≡ told_by read → told_by (Err e) ≡ some (faults.Undecodable e)
    → IsReading (Err e) read → (undecodable e ≡ faults.OutOfMemory) ⊎ (total ≡ some (undecodable e))
told total told_by e some read is last gives = by (unread e read gives)
  where
    by : (undecodable e ≡ faults.OutOfMemory) ⊎ ((read ≡ Err e) × (undecodable e ≡ faults.Undecodable e)) → (undecodable e ≡ faults.OutOfMemory)
        ⊎ (total ≡ some (undecodable e))
    by (inl memory) = inl memory
    by (inr (bad, kept)) = inr (rw kept (is ∙ ap told_by bad ∙ last))

module _ (accepts : List ℕ → List ℕ → List ℕ → Bool) (bytes : List ℕ) where
  pub no_block : (e : MessageFault) → IsReading (Err e) (block bytes) → BlockGives accepts bytes (Err (undecodable e))
  unfolding structure_fault
  no_block e gives = told (structure_fault accepts bytes) (structure_fault_of accepts) e (λ (fault : StructureFault). Some fault) (block bytes) refl refl gives

  module _ (b : Block) (decoded : block bytes ≡ Ok b) where
    by_header : structure_fault accepts bytes ≡ structure_fault_by accepts b (block_header b.header)
    unfolding structure_fault
    by_header = ap (structure_fault_of accepts) decoded

    pub no_header : (e : MessageFault) → IsReading (Err e) (block_header b.header) → BlockGives accepts bytes (Err (undecodable e))
    no_header e gives = told (structure_fault accepts bytes) (structure_fault_by accepts b) e (λ (fault : StructureFault). Some fault)
        (block_header b.header) by_header refl gives

    module _ (header : BlockHeader) (read : block_header b.header ≡ Ok header) where
      abbrev first : Option StructureFault
      first = first_of (block_tests b header)

      abbrev ids : Option StructureFault
      ids = batch_ids_fault b header

      abbrev batches : Option StructureFault
      batches = batches_fault accepts 0 b.batches

      abbrev signature : Option StructureFault
      signature = block_signature_fault accepts b header

      whole : structure_fault accepts bytes ≡ first <|> (ids <|> (batches <|> signature))
      whole = by_header ∙ ap (structure_fault_by accepts b) read

      pub at_tests : (fault : StructureFault) → first ≡ Some fault → structure_fault accepts bytes ≡ Some fault
      at_tests = at_first first ids batches signature whole

      module _ (first_fine : first ≡ None) where
        pub at_ids : (fault : StructureFault) → ids ≡ Some fault → structure_fault accepts bytes ≡ Some fault
        at_ids = at_second first ids batches signature whole first_fine

        module _ (ids_fine : ids ≡ None) where
          pub at_batches : (e : StructureFault) → (e ≡ faults.OutOfMemory) ⊎ (batches ≡ Some e) → BlockGives accepts bytes (Err e)
          at_batches e (inl memory) = inl memory
          at_batches e (inr bad) = inr (at_third first ids batches signature whole first_fine ids_fine e bad)

          pub at_signature : (last : Option StructureFault) → batches ≡ None → signature ≡ last → structure_fault accepts bytes ≡ last
          at_signature = at_fourth first ids batches signature whole first_fine ids_fine
