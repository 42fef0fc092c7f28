-- The numbers of the tests of a block.
use Rattle.std.specs.Prelude.{◌≡◌, ℕ, List, Some}
use Rattle.std.specs.List.{AllByRecursion}
use Rattle.saw_address.specs.Maps.{StateMap}
use Rattle.saw_context.specs.declared.batch_result.BatchResult.{BatchResult}
use Rattle.saw_receipts.specs.Numbers.{fault_number}
use Rattle.saw_receipts.specs.declared.block.BlockRecord.{BlockRecord}
use Rattle.saw_receipts.specs.declared.verdict.BlockFault.{BlockFault}
use Rattle.saw_rules.specs.Policies.{Policy}
use Rattle.saw_journal.specs.BlockFaults.{Test, tests}
use Rattle.saw_journal.specs.BlockShapes.{Parts}

-- a fault that a test finds has the test's number
abbrev pub HasItsNumber : Test → Type 0
HasItsNumber test = (fault : BlockFault) → test.1 ≡ Some fault → fault_number fault ≡ test.0

-- each test of a block finds faults of its number alone
abbrev pub FaultsHaveNumbers : Type 0
FaultsHaveNumbers = (hash : List ℕ → List ℕ) (policy : Policy) (blocks : List BlockRecord) (before : StateMap) (results : List BatchResult) (parts : Parts)
    → AllByRecursion HasItsNumber (tests hash policy blocks before results parts)
