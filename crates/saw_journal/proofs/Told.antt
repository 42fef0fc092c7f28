-- Of a block that goes to deterministic processors one thing is said.
use Rattle.std.proofs.Common.{◌≡◌, ℕ, Bool, true, List, [], Option, Some, None, Result, Ok, Err, refl, sym, ap, ◌∙◌}
use Rattle.saw_address.specs.Maps.{StateMap}
use Rattle.saw_checks.specs.StructureFaults.{structure_fault}
use Rattle.saw_checks.specs.declared.fault.StructureFault.{StructureFault}
use Rattle.saw_context.proofs.Coming.{from_told}
use Rattle.saw_context.specs.Outcome.{Processors}
use Rattle.saw_context.specs.Possible.{are_told}
use Rattle.saw_context.specs.Serial.{left_after, serial}
use Rattle.saw_context.specs.declared.batch_result.BatchResult.{BatchResult}
use Rattle.saw_messages.specs.Blocks.{block, block_header}
use Rattle.saw_messages.specs.TxShapes.{TxShape}
use Rattle.saw_messages.specs.declared.block.Block.{Block}
use Rattle.saw_messages.specs.declared.block.BlockHeader.{BlockHeader}
use Rattle.saw_node.specs.Contents.{Node}
use Rattle.saw_plan.specs.BatchShapes.{txs_of}
use Rattle.saw_receipts.specs.Running.{Runs, RunsBy}
use Rattle.saw_receipts.specs.Telling.{tell_batches, tell_block, tell_read}
use Rattle.saw_receipts.specs.declared.block.BlockRecord.{BlockRecord}
use Rattle.saw_receipts.specs.declared.verdict.Verdict.{Verdict}
use Rattle.saw_receipts.specs.declared.verdict.Verdict.TheVariants.{Committed, Stored, Refused}
use Rattle.saw_rules.specs.Policies.{Policy}
use Rattle.saw_wire.specs.declared.fault.MessageFault.{MessageFault}
use Rattle.saw_journal.specs.BlockFaults.{fault_but_root, parent_of}
use Rattle.saw_journal.specs.BlockShapes.{Parts, parts_of}
use Rattle.saw_journal.specs.Clashing.{Clashes}
use Rattle.saw_journal.specs.Judgement.{judged, judged_block, judged_header, judged_parts, judged_unless, judged_with, left_block, left_header, left_parts, left_unless, rules_by, some_unless, would_leave}
use Rattle.saw_journal.specs.Laws.{ToldIsAnsweredSerially, ToldIsSaidSerially}
use Rattle.saw_journal.specs.Ledger.{IsFull, Ledger, Says, judged_in, map_under}
use Rattle.saw_journal.specs.declared.fault.JournalFault.TheVariants as faults

module _ (processors : Processors) (runs : Runs) (by : RunsBy processors runs) where
  abbrev serially : Runs
  serially = λ m batches. serial processors m batches

  same : (m : StateMap) (batches : List (List TxShape)) → are_told processors batches ≡ true → runs m batches ≡ serial processors m batches
  same m batches told = from_told processors [] m batches (runs m batches) told (by.serial m batches)

  module _ (hash : List ℕ → List ℕ) (policy : Policy) (map_behind : Option BlockRecord → StateMap) (blocks : List BlockRecord) where
    judged_parts_told : (parts : Parts) → are_told processors (txs_of parts.batches) ≡ true
        → judged_parts hash policy runs map_behind blocks parts ≡ judged_parts hash policy serially map_behind blocks parts
    judged_parts_told parts told =
        let before = map_behind (parent_of blocks parts.header) in
        ap (λ (results : List BatchResult). judged_with hash policy blocks before results parts) (same before (txs_of parts.batches) told)

    judged_header_told : (b : Block) (header : Result BlockHeader MessageFault) → tell_batches processors b.batches ≡ true
        → judged_header hash policy runs map_behind blocks b header ≡ judged_header hash policy serially map_behind blocks b header
    judged_header_told b (Ok header) told = judged_parts_told (parts_of b header) told
    judged_header_told b (Err e) told = refl

    judged_block_told : (read : Result Block MessageFault) → tell_read processors read ≡ true
        → judged_block hash policy runs map_behind blocks read ≡ judged_block hash policy serially map_behind blocks read
    judged_block_told (Ok b) told = judged_header_told b (block_header b.header) told
    judged_block_told (Err e) told = refl

    judged_unless_told : (content : List ℕ) (fault : Option StructureFault) → tell_block processors content ≡ true
        → judged_unless hash policy runs map_behind blocks content fault ≡ judged_unless hash policy serially map_behind blocks content fault
    judged_unless_told content (Some fault) told = refl
    judged_unless_told content None told = judged_block_told (block content) told

    left_parts_told : (parts : Parts) → are_told processors (txs_of parts.batches) ≡ true
        → left_parts hash policy runs map_behind blocks parts ≡ left_parts hash policy serially map_behind blocks parts
    left_parts_told parts told =
        let before = map_behind (parent_of blocks parts.header) in
        ap (λ (results : List BatchResult). some_unless (fault_but_root hash policy blocks before results parts) (left_after before results))
        (same before (txs_of parts.batches) told)

    left_header_told : (b : Block) (header : Result BlockHeader MessageFault) → tell_batches processors b.batches ≡ true
        → left_header hash policy runs map_behind blocks b header ≡ left_header hash policy serially map_behind blocks b header
    left_header_told b (Ok header) told = left_parts_told (parts_of b header) told
    left_header_told b (Err e) told = refl

    left_block_told : (read : Result Block MessageFault) → tell_read processors read ≡ true
        → left_block hash policy runs map_behind blocks read ≡ left_block hash policy serially map_behind blocks read
    left_block_told (Ok b) told = left_header_told b (block_header b.header) told
    left_block_told (Err e) told = refl

    left_unless_told : (content : List ℕ) (fault : Option StructureFault) → tell_block processors content ≡ true
        → left_unless hash policy runs map_behind blocks content fault ≡ left_unless hash policy serially map_behind blocks content fault
    left_unless_told content (Some fault) told = refl
    left_unless_told content None told = left_block_told (block content) told

  -- what comes of the bytes of a block, and the map that it would leave
  module _ (hash : List ℕ → List ℕ) (accepts : List ℕ → List ℕ → List ℕ → Bool) (policy : Policy) (map_behind : Option BlockRecord → StateMap)
      (blocks : List BlockRecord) (content : List ℕ) (told : tell_block processors content ≡ true) where
    pub judged_told : judged (rules_by hash accepts policy runs) map_behind blocks content
        ≡ judged (rules_by hash accepts policy serially) map_behind blocks content
    unfolding judged
    judged_told = judged_unless_told hash policy map_behind blocks content (structure_fault accepts content) told

    pub left_told : would_leave (rules_by hash accepts policy runs) map_behind blocks content
        ≡ would_leave (rules_by hash accepts policy serially) map_behind blocks content
    unfolding would_leave
    left_told = left_unless_told hash policy map_behind blocks content (structure_fault accepts content) told

-- what is said of it by some way to run its batches is said of it where they are run one after another
pub told_is_said : ToldIsSaidSerially
told_is_said hash accepts policy processors runs old new content verdict by told says = to verdict says
  where
    here : judged_in (rules_by hash accepts policy runs) old content
        ≡ judged_in (rules_by hash accepts policy (λ m batches. serial processors m batches)) old content
    here = judged_told processors runs by hash accepts policy (map_under old.states) old.blocks content told

    to : (verdict : Verdict) → Says (rules_by hash accepts policy runs) old content verdict new
        → Says (rules_by hash accepts policy (λ m batches. serial processors m batches)) old content verdict new
    to Committed says = record { kept = says.kept; fine = sym here ∙ says.fine; room = says.room; head = says.head; grown_by = says.grown_by }
    to Stored says = record { kept = says.kept; fine = sym here ∙ says.fine; room = says.room; head = says.head; grown_by = says.grown_by }
    to (Refused fault) says = (sym here ∙ says.0, says.1)

-- the same of no room, and of two nodes that collide
module _ (hash : List ℕ → List ℕ) (accepts : List ℕ → List ℕ → List ℕ → Bool) (policy : Policy) (processors : Processors) (runs : Runs)
    (by : RunsBy processors runs) (old : Ledger) (content : List ℕ) (told : tell_block processors content ≡ true) where
  told_is_full : IsFull (rules_by hash accepts policy runs) old content
      → IsFull (rules_by hash accepts policy (λ m batches. serial processors m batches)) old content
  told_is_full full = record {
    kept = full.kept;
    fine = sym (judged_told processors runs by hash accepts policy (map_under old.states) old.blocks content told) ∙ full.fine;
    full = full.full;
  }

  told_clashes : (kept given : Node) → Clashes (rules_by hash accepts policy runs) old.states old.blocks content kept given
      → Clashes (rules_by hash accepts policy (λ m batches. serial processors m batches)) old.states old.blocks content kept given
  told_clashes kept given met = record {
    left = met.left;
    left_is = sym (left_told processors runs by hash accepts policy (map_under old.states) old.blocks content told) ∙ met.left_is;
    clash = met.clash;
  }

module _ {R : Type 0} (faults_of : R → ℕ) where
  -- the answer of a call with the clauses of `accept`
  pub told_is_answered : ToldIsAnsweredSerially faults_of
  told_is_answered hash accepts policy processors old new content before after (Ok verdict) told says full clash cause none =
      told_is_said hash accepts policy processors says.0 old new content verdict says.1 told says.2
  told_is_answered hash accepts policy processors old new content before after (Err faults.Full) told says full clash cause none =
      let found = full refl in told_is_full hash accepts policy processors found.0 found.1 old content told found.2
  told_is_answered hash accepts policy processors old new content before after (Err (faults.Collision kept given)) told says full clash cause none =
      told_clashes hash accepts policy processors clash.0 clash.1 old content told kept given clash.2
  told_is_answered hash accepts policy processors old new content before after (Err faults.PeerFailed) told says full clash cause none =
      none (cause refl)
  told_is_answered hash accepts policy processors old new content before after (Err faults.OutOfMemory) told says full clash cause none = tt
