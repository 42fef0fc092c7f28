-- The numbers and names of the faults of a block.
use Rattle.std.specs.Prelude.{ℕ, List, codes}
use Rattle.saw_checks.specs.Numbers.{structure_label}
use Rattle.saw_receipts.specs.declared.verdict.BlockFault.{BlockFault}
use Rattle.saw_receipts.specs.declared.verdict.BlockFault.TheVariants as faults

-- the number and the name of a fault
abbrev pub fault_label : BlockFault → ℕ × List ℕ
fault_label (faults.Structure fault) = structure_label fault
fault_label faults.Known = (8, codes "Known")
fault_label faults.GenesisAgain = (9, codes "GenesisAgain")
fault_label faults.PreviousUnknown = (10, codes "PreviousUnknown")
fault_label (faults.BlockNumber stated due) = (11, codes "BlockNumber")
fault_label faults.Consensus = (12, codes "Consensus")
fault_label (faults.Static k cause) = (13, codes "Static")
fault_label (faults.Policy k fault) = (16, codes "Policy")
fault_label (faults.BatchInvalid k t reason) = (14, codes "BatchInvalid")
fault_label (faults.Root stated computed) = (15, codes "Root")

abbrev pub fault_number : BlockFault → ℕ
fault_number fault = (fault_label fault).0

abbrev pub fault_name : BlockFault → List ℕ
fault_name fault = (fault_label fault).1
