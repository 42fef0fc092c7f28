-- What ends a judgement.
use Rattle.std.specs.Prelude.{◌≡◌, Option, Some, None, Result, Ok, Err}
use Rattle.saw_checks.specs.declared.fault.StructureFault.{StructureFault}
use Rattle.saw_checks.specs.declared.fault.StructureFault.TheVariants as structures
use Rattle.saw_receipts.specs.declared.verdict.BlockFault.{BlockFault}
use Rattle.saw_receipts.specs.declared.verdict.BlockFault.TheVariants.{Structure}
use Rattle.saw_journal.specs.declared.fault.JournalFault.TheVariants.{OutOfMemory}
use Rattle.saw_journal.specs.declared.stop.Stop.{Stop}
use Rattle.saw_journal.specs.declared.stop.Stop.TheVariants.{Refused, Failed}

-- a structure fault refuses the block, unless memory ran out
abbrev pub stop_of_structure : StructureFault → Stop
stop_of_structure (structures.Undecodable fault) = Refused (Structure (structures.Undecodable fault))
stop_of_structure structures.IdText = Refused (Structure structures.IdText)
stop_of_structure structures.KeyText = Refused (Structure structures.KeyText)
stop_of_structure (structures.TooManyTransactions count) = Refused (Structure (structures.TooManyTransactions count))
stop_of_structure (structures.BatchIds index) = Refused (Structure (structures.BatchIds index))
stop_of_structure (structures.Batch k fault) = Refused (Structure (structures.Batch k fault))
stop_of_structure structures.Signature = Refused (Structure structures.Signature)
stop_of_structure structures.OutOfMemory = Failed OutOfMemory

-- what ends a part of a judgement: this fault of the block, unless memory ran out
abbrev pub IsStop : Option BlockFault → Stop → Type 0
IsStop found (Refused fault) = found ≡ Some fault
IsStop found (Failed fault) = fault ≡ OutOfMemory

-- what a test answers: this fault, unless memory ran out, or that there is none
abbrev pub TestsAs : {A : Type 0} → Option BlockFault → Result A Stop → Type 0
TestsAs found (Ok x) = found ≡ None
TestsAs found (Err stop) = IsStop found stop
