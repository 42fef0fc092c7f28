-- What comes of a block: the first fault, or the record that is kept of it and the map that it leaves.
use Rattle.std.specs.Prelude.{ℕ, Bool, List, [], map, Option, Some, None, Result, Ok, Err}
use Rattle.std.specs.List.{zip}
use Rattle.saw_address.specs.Maps.{StateMap}
use Rattle.saw_checks.specs.StructureFaults.{structure_fault}
use Rattle.saw_checks.specs.declared.fault.StructureFault.{StructureFault}
use Rattle.saw_checks.specs.declared.fault.StructureFault.TheVariants.{Undecodable}
use Rattle.saw_context.specs.Serial.{left_after}
use Rattle.saw_context.specs.declared.batch_result.BatchResult.{BatchResult}
use Rattle.saw_context.specs.declared.batch_result.BatchResult.TheVariants.{Applied, Failed}
use Rattle.saw_messages.specs.Blocks.{block, block_header}
use Rattle.saw_messages.specs.TxShapes.{BatchShape, TxShape}
use Rattle.saw_messages.specs.declared.block.Block.{Block}
use Rattle.saw_messages.specs.declared.block.BlockHeader.{BlockHeader}
use Rattle.saw_messages.specs.declared.outcome.Outcome.{Outcome}
use Rattle.saw_node.specs.Trees.{root_of_map}
use Rattle.saw_plan.specs.BatchShapes.{ids_of, txs_of}
use Rattle.saw_receipts.specs.Receipts.{receipts}
use Rattle.saw_receipts.specs.Running.{Runs}
use Rattle.saw_receipts.specs.declared.block.BatchRecord.{BatchRecord}
use Rattle.saw_receipts.specs.declared.block.BlockRecord.{BlockRecord}
use Rattle.saw_receipts.specs.declared.verdict.BlockFault.{BlockFault}
use Rattle.saw_receipts.specs.declared.verdict.BlockFault.TheVariants.{Structure}
use Rattle.saw_rules.specs.Policies.{Policy}
use Rattle.saw_wire.specs.declared.fault.MessageFault.{MessageFault}
use Rattle.saw_journal.specs.BlockFaults.{fault_but_root, fault_by, parent_of}
use Rattle.saw_journal.specs.BlockShapes.{Parts, parts_of}

-- what is kept of a block without fault
pub record Kept : Type 0 where
  pub block : BlockRecord
  pub batches : List (List TxShape)
  pub left : StateMap

-- the outcomes of an applied batch
abbrev pub outcomes_in : BatchResult → List Outcome
outcomes_in (Applied outcomes) = outcomes
outcomes_in (Failed t reason) = []

abbrev pub batch_record : BatchShape → BatchResult → BatchRecord
batch_record batch result = record { id = batch.id; receipts = receipts (ids_of batch.txs) (outcomes_in result) }

abbrev pub batch_records : List BatchShape → List BatchResult → List BatchRecord
batch_records batches results = map (λ each. batch_record each.0 each.1) (zip batches results)

abbrev pub unless : {A : Type 0} → Option BlockFault → A → Result A BlockFault
unless None kept = Ok kept
unless (Some fault) kept = Err fault

-- by what a block is judged: the hash of nodes, who vouches for signatures, how batches are run, and a policy
pub record Rules : Type 0 where
  pub hash : List ℕ → List ℕ
  pub accepts : List ℕ → List ℕ → List ℕ → Bool
  pub runs : Runs
  pub policy : Policy

abbrev pub rules_by : (List ℕ → List ℕ) → (List ℕ → List ℕ → List ℕ → Bool) → Policy → Runs → Rules
rules_by hash accepts policy runs = record { hash = hash; accepts = accepts; runs = runs; policy = policy }

module _ (hash : List ℕ → List ℕ) where
  abbrev pub kept_of : Parts → StateMap → List BatchResult → Kept
  kept_of parts before results = record {
    block = record {
      id = parts.id;
      number = parts.header.block_num;
      previous = parts.header.previous_block_id;
      signer = parts.header.signer_public_key;
      root = root_of_map hash (left_after before results);
      batches = batch_records parts.batches results;
    };
    batches = txs_of parts.batches;
    left = left_after before results;
  }

  abbrev pub judged_with : Policy → List BlockRecord → StateMap → List BatchResult → Parts → Result Kept BlockFault
  judged_with policy blocks before results parts = unless (fault_by hash policy blocks before results parts) (kept_of parts before results)

  module _ (policy : Policy) (runs : Runs) (map_behind : Option BlockRecord → StateMap) where
    -- of a block whose structure has no fault: its batches are run over the map behind its parent
    abbrev pub judged_parts : List BlockRecord → Parts → Result Kept BlockFault
    judged_parts blocks parts =
        judged_with policy blocks (map_behind (parent_of blocks parts.header)) (runs (map_behind (parent_of blocks parts.header)) (txs_of parts.batches)) parts

    abbrev pub judged_header : List BlockRecord → Block → Result BlockHeader MessageFault → Result Kept BlockFault
    judged_header blocks b (Ok header) = judged_parts blocks (parts_of b header)
    judged_header blocks b (Err e) = Err (Structure (Undecodable e))

    abbrev pub judged_block : List BlockRecord → Result Block MessageFault → Result Kept BlockFault
    judged_block blocks (Ok b) = judged_header blocks b (block_header b.header)
    judged_block blocks (Err e) = Err (Structure (Undecodable e))

    abbrev pub judged_unless : List BlockRecord → List ℕ → Option StructureFault → Result Kept BlockFault
    judged_unless blocks content (Some fault) = Err (Structure fault)
    judged_unless blocks content None = judged_block blocks (block content)

-- what comes of the bytes of a block behind accepted ones
unfoldable pub judged : Rules → (Option BlockRecord → StateMap) → List BlockRecord → List ℕ → Result Kept BlockFault
judged rules map_behind blocks content =
    judged_unless rules.hash rules.policy rules.runs map_behind blocks content (structure_fault rules.accepts content)

-- ---- the map that a block would leave, also where it is refused then for its root

abbrev pub some_unless : {A : Type 0} → Option BlockFault → A → Option A
some_unless None left = Some left
some_unless (Some fault) left = None

module _ (hash : List ℕ → List ℕ) (policy : Policy) (runs : Runs) (map_behind : Option BlockRecord → StateMap) where
  -- what its batches leave of the map behind its parent, where no test but that of the root finds a fault
  abbrev pub left_parts : List BlockRecord → Parts → Option StateMap
  left_parts blocks parts =
      let before = map_behind (parent_of blocks parts.header) in
      let results = runs before (txs_of parts.batches) in
      some_unless (fault_but_root hash policy blocks before results parts) (left_after before results)

  abbrev pub left_header : List BlockRecord → Block → Result BlockHeader MessageFault → Option StateMap
  left_header blocks b (Ok header) = left_parts blocks (parts_of b header)
  left_header blocks b (Err e) = None

  abbrev pub left_block : List BlockRecord → Result Block MessageFault → Option StateMap
  left_block blocks (Ok b) = left_header blocks b (block_header b.header)
  left_block blocks (Err e) = None

  abbrev pub left_unless : List BlockRecord → List ℕ → Option StructureFault → Option StateMap
  left_unless blocks content (Some fault) = None
  left_unless blocks content None = left_block blocks (block content)

-- the map that the bytes of a block would leave behind accepted ones: none where a test but that of the root finds a fault
unfoldable pub would_leave : Rules → (Option BlockRecord → StateMap) → List BlockRecord → List ℕ → Option StateMap
would_leave rules map_behind blocks content =
    left_unless rules.hash rules.policy rules.runs map_behind blocks content (structure_fault rules.accepts content)
