-- The numbers and names of the faults of a block's structure.
use Rattle.std.specs.Prelude.{ℕ, List, [], codes}
use Rattle.saw_checks.specs.declared.fault.StructureFault.{StructureFault}
use Rattle.saw_checks.specs.declared.fault.StructureFault.TheVariants as faults

-- the number and the name of a fault; want of memory is no fault of a block, and has none
abbrev pub structure_label : StructureFault → ℕ × List ℕ
structure_label (faults.Undecodable fault) = (1, codes "Undecodable")
structure_label faults.IdText = (2, codes "IdText")
structure_label faults.KeyText = (3, codes "KeyText")
structure_label (faults.TooManyTransactions count) = (4, codes "TooManyTransactions")
structure_label (faults.BatchIds index) = (5, codes "BatchIds")
structure_label (faults.Batch k fault) = (6, codes "Batch")
structure_label faults.Signature = (7, codes "Signature")
structure_label faults.OutOfMemory = (0, [])

abbrev pub structure_number : StructureFault → ℕ
structure_number fault = (structure_label fault).0

abbrev pub structure_name : StructureFault → List ℕ
structure_name fault = (structure_label fault).1
