-- The tests of a block behind accepted ones, in order.
use Rattle.std.specs.Prelude.{ℕ, ◌+◌, Bool, ◌&&◌, not, List, [], ◌∷◌, ◌++◌, Option, Some, None, option_map, nat_eq, ◌==◌, codes, if◌then◌else◌}
use Rattle.std.specs.List.{starts_with}
use Rattle.std.specs.Str.{bytes_eq}
use Rattle.hex.specs.Hex.{encode_lower}
use Rattle.saw_address.specs.Maps.{StateMap}
use Rattle.saw_checks.specs.Tests.{◌<|>◌}
use Rattle.saw_context.specs.Serial.{left_after}
use Rattle.saw_context.specs.declared.batch_result.BatchResult.{BatchResult}
use Rattle.saw_messages.specs.declared.block.BlockHeader.{BlockHeader}
use Rattle.saw_node.specs.Trees.{root_of_map}
use Rattle.saw_messages.specs.TxShapes.{BatchShape}
use Rattle.saw_plan.specs.Sorting.{dropped_by}
use Rattle.saw_plan.specs.StaticRules.{Ids, causes}
use Rattle.saw_plan.specs.declared.sorted.Dropped.{Dropped}
use Rattle.saw_receipts.specs.declared.block.BlockRecord.{BlockRecord}
use Rattle.saw_receipts.specs.declared.verdict.BlockFault.{BlockFault}
use Rattle.saw_receipts.specs.declared.verdict.BlockFault.TheVariants as faults
use Rattle.saw_receipts.specs.declared.verdict.BlockFault.TheVariants.{Known, GenesisAgain, PreviousUnknown, BlockNumber, Consensus, Static, BatchInvalid, Root}
use Rattle.saw_rules.specs.Policies.{Policy, first_fault}
use Rattle.saw_schedule.specs.BatchResults.{first_failure}
use Rattle.saw_receipts.specs.Branches.{no_block, has_block, has_first, block_at, branch_of, ids_in}
use Rattle.saw_journal.specs.BlockShapes.{Parts}

-- a block that states that none is before it
abbrev pub is_first : BlockHeader → Bool
is_first header = bytes_eq header.previous_block_id no_block

-- the accepted block before it
abbrev pub parent_of : List BlockRecord → BlockHeader → Option BlockRecord
parent_of blocks header = if is_first header then None else block_at blocks header.previous_block_id

-- the number of a block behind its parent
abbrev pub due_behind : Option BlockRecord → ℕ
due_behind None = 0
due_behind (Some parent) = parent.number + 1

-- a test of a block: its number, and the fault of a block that does not pass it
abbrev pub Test : Type 0
Test = ℕ × Option BlockFault

-- the first fault by tests in order
abbrev pub first_in : List Test → Option BlockFault
first_in [] = None
first_in (test ∷ tests) = test.1 <|> first_in tests

-- the tests before that with a number
abbrev pub until : ℕ → List Test → List Test
until n [] = []
until n (test ∷ tests) = if test.0 == n then [] else test ∷ until n tests

abbrev pub when : Bool → BlockFault → Option BlockFault
when holds fault = if holds then Some fault else None

-- where a block stands
abbrev pub place_tests : List BlockRecord → List ℕ → BlockHeader → List Test
place_tests blocks id header =
    (8, when (has_block blocks id) Known)
    ∷ (9, when (is_first header && has_first blocks) GenesisAgain)
    ∷ (10, when (not (is_first header) && not (has_block blocks header.previous_block_id)) PreviousUnknown)
    ∷ (
      11,
      when (not (header.block_num == due_behind (parent_of blocks header))) (BlockNumber header.block_num (due_behind (parent_of blocks header))),
    )
    ∷ (12, when (not (is_first header) && not (starts_with nat_eq header.consensus (codes "Devmode"))) Consensus)
    ∷ []

-- the ids that are there before it: those of its parent's branch
abbrev pub ids_before : List BlockRecord → BlockHeader → Ids
ids_before blocks header = ids_in (if is_first header then [] else branch_of (λ block. block) blocks header.previous_block_id)

-- the first batch that the static rules drop
abbrev pub first_dropped : List Dropped → Option BlockFault
first_dropped [] = None
first_dropped (dropped ∷ others) = Some (Static dropped.place dropped.cause)

abbrev pub static_fault : Ids → List BatchShape → Option BlockFault
static_fault there batches = first_dropped (dropped_by 0 (causes there batches))

-- the first fault by a policy, over the map before a block by this signer
abbrev pub policy_fault : Policy → StateMap → List ℕ → List BatchShape → Option BlockFault
policy_fault policy before signer batches =
    option_map (λ placed. faults.Policy placed.k placed.fault) (first_fault policy.fault policy.end_fault before signer batches)

-- whether its batches may stand in it
abbrev pub rule_tests : Policy → Ids → StateMap → List ℕ → List BatchShape → List Test
rule_tests policy there before signer batches = (13, static_fault there batches) ∷ (16, policy_fault policy before signer batches) ∷ []

-- the first failed batch
abbrev pub failure_fault : List BatchResult → Option BlockFault
failure_fault results = option_map (λ failure. BatchInvalid failure.0 failure.1 failure.2) (first_failure 0 results)

-- whether it states the digits of the root
abbrev pub root_fault : BlockHeader → List ℕ → Option BlockFault
root_fault header root = when (not (bytes_eq header.state_root_hash (encode_lower root))) (Root header.state_root_hash root)

-- whether its batches, run over the map before it, all apply, and leave the stated root
abbrev pub run_tests : (List ℕ → List ℕ) → StateMap → List BatchResult → BlockHeader → List Test
run_tests hash before results header =
    (14, failure_fault results) ∷ (15, root_fault header (root_of_map hash (left_after before results))) ∷ []

module _ (hash : List ℕ → List ℕ) (policy : Policy) (blocks : List BlockRecord) (before : StateMap) (results : List BatchResult) (parts : Parts) where
  -- the tests of a block whose structure has no fault, in the order in which they are tried
  abbrev pub tests : List Test
  tests =
      place_tests blocks parts.id parts.header
      ++ rule_tests policy (ids_before blocks parts.header) before parts.header.signer_public_key parts.batches
      ++ run_tests hash before results parts.header

  abbrev pub fault_by : Option BlockFault
  fault_by = first_in tests

  -- the first fault besides that of the root
  abbrev pub fault_but_root : Option BlockFault
  fault_but_root = first_in (until 15 tests)
