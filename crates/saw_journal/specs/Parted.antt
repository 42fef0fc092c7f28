-- What the parts of a judgement answer.
use Rattle.std.specs.Prelude.{◌≡◌, ◌<◌, ℕ, Bool, true, false, List, [], ◌∷◌, ◌++◌, length, Option, Some, None, option_copied, option_map, IsSome}
use Rattle.std.specs.Prelude.{Result, Ok, Err}
use denote.Ref.{Bor}
use Rattle.saw_context.specs.Changed.{AreRising}
use Rattle.saw_context.specs.Outcome.{Processors, map_after}
use Rattle.saw_context.specs.Possible.{MayComeOfAll}
use Rattle.saw_context.specs.Serial.{left_after}
use Rattle.saw_context.specs.declared.batch_result.BatchResult.{BatchResult}
use Rattle.saw_merkle.specs.Clashes.{IsClashFor, IsPreparedFor}
use Rattle.saw_merkle.specs.States.{States, knows, map_at, state_at}
use Rattle.saw_messages.specs.declared.block.BlockHeader.{BlockHeader}
use Rattle.saw_messages.specs.TxShapes.{BatchShape}
use Rattle.saw_node.specs.Trees.{root_of_map}
use Rattle.saw_plan.specs.BatchShapes.{txs_of}
use Rattle.saw_plan.specs.StaticRules.{Ids}
use Rattle.saw_plan.specs.declared.plan.Plan.{Plan}
use Rattle.saw_receipts.specs.declared.block.BlockRecord.{BlockRecord}
use Rattle.saw_receipts.specs.declared.verdict.BlockFault.{BlockFault}
use Rattle.saw_receipts.specs.declared.verdict.Verdict.{Verdict}
use Rattle.saw_receipts.specs.declared.verdict.Verdict.TheVariants as verdicts
use Rattle.saw_rules.specs.Policies.{Policy}
use Rattle.saw_store.specs.declared.fault.StoreFault.TheVariants.{Collision}
use Rattle.saw_journal.specs.BlockFaults.{failure_fault, first_in, parent_of, place_tests, run_tests, static_fault}
use Rattle.saw_journal.specs.BlockShapes.{Parts}
use Rattle.saw_journal.specs.Clashing.{Clashes}
use Rattle.saw_receipts.specs.Heads.{head_of, is_new_head, root_behind}
use Rattle.saw_journal.specs.Judgement.{Kept, judged, kept_of, rules_by}
use Rattle.saw_receipts.specs.Running.{Runs}
use Rattle.saw_journal.specs.Ledger.{Ledger, map_under}
use Rattle.saw_receipts.specs.Running.{RunsBy}
use Rattle.saw_journal.specs.Linked.{StandsBehind}
use Rattle.saw_journal.specs.Stops.{IsStop}
use Rattle.saw_journal.specs.declared.fault.JournalFault.TheVariants as faults
use Rattle.saw_journal.specs.declared.judge.New.{New}
use Rattle.saw_journal.specs.declared.stop.Stop.{Stop}
use Rattle.saw_journal.specs.declared.stop.Stop.TheVariants.{Refused, Failed}

-- the accepted block before one that states this place, or the first fault of the place
abbrev pub PlacedAs : List BlockRecord → List ℕ → BlockHeader → Result (Option (Bor BlockRecord)) Stop → Type 0
PlacedAs blocks id header (Ok parent) = (first_in (place_tests blocks id header) ≡ None) × (option_copied parent ≡ parent_of blocks header)
PlacedAs blocks id header (Err stop) = IsStop (first_in (place_tests blocks id header)) stop

-- a plan of all batches, or the fault of the first that is dropped
abbrev pub PlansAs : Ids → List BatchShape → Result Plan Stop → Type 0
PlansAs there batches (Ok plan) = (static_fault there batches ≡ None) × (plan.batches ≡ batches)
PlansAs there batches (Err stop) = IsStop (static_fault there batches) stop

-- the root under which the map before a block stands
abbrev pub root_before : (List ℕ → List ℕ) → Option BlockRecord → List ℕ
root_before hash parent = root_behind hash (option_map (λ block. block.root) parent)

-- a record and changes that say what is kept of a block: the changes lead from a known map to the one that it leaves,
-- which has what it needs to become known
pub record IsNew (hash : List ℕ → List ℕ) (states : States) (kept : Kept) (new : New) : Type 0 where
  pub block : new.block ≡ kept.block
  pub rising : AreRising new.changes
  pub known : IsSome (state_at states new.before)
  pub left : kept.left ≡ map_after (map_at states new.before) new.changes
  pub prepared : IsPreparedFor hash states kept.left new.prepared

-- the tests of a block that need the results of its batches
abbrev pub run_fault : (List ℕ → List ℕ) → States → List ℕ → Parts → List BatchResult → Option BlockFault
run_fault hash states before parts results = first_in (run_tests hash (map_at states before) results parts.header)

module _ (processors : Processors) (hash : List ℕ → List ℕ) (states : States) (before : List ℕ) (parts : Parts) where
  -- results that may come of the batches, of which these tests come
  pub record HasRun (results : List BatchResult) (found : Option BlockFault) : Type 0 where
    pub may : MayComeOfAll processors (map_at states before) (txs_of parts.batches) results
    pub tested : run_fault hash states before parts results ≡ found

  -- what the run of a block's batches answers
  abbrev pub RunsAs : Result New Stop → Type 0
  RunsAs (Ok new) =
      (results : List BatchResult) × HasRun results None × IsNew hash states (kept_of hash parts (map_at states before) results) new
  RunsAs (Err (Refused fault)) = (results : List BatchResult) × HasRun results (Some fault)
  RunsAs (Err (Failed (faults.Collision kept given))) =
      (results : List BatchResult) × MayComeOfAll processors (map_at states before) (txs_of parts.batches) results
      × (failure_fault results ≡ None) × IsClashFor hash states (left_after (map_at states before) results) (Collision kept given)
  RunsAs (Err (Failed _)) = Unit {0}

module _ (processors : Processors) (hash : List ℕ → List ℕ) (accepts : List ℕ → List ℕ → List ℕ → Bool) (policy : Policy) (blocks : List BlockRecord)
    (states : States) (content : List ℕ) where
  -- this comes of the bytes, by some way to run batches
  pub record ComesTo (came : Result Kept BlockFault) : Type 0 where
    pub runs : Runs
    pub by : RunsBy processors runs
    pub judged_as : judged (rules_by hash accepts policy runs) (map_under states) blocks content ≡ came

  -- what a judgement of the bytes answers
  abbrev pub JudgedAs : Result New Stop → Type 0
  JudgedAs (Ok new) = (kept : Kept) × ComesTo (Ok kept) × IsNew hash states kept new
  JudgedAs (Err (Refused fault)) = ComesTo (Err fault)
  JudgedAs (Err (Failed (faults.Collision kept given))) =
      (runs : Runs) × RunsBy processors runs × Clashes (rules_by hash accepts policy runs) states blocks content kept given
  JudgedAs (Err (Failed _)) = Unit {0}

-- what a new block has, so that it may join: it stands behind the accepted ones, and has the root of the map that
-- it leaves and what that needs to become known
pub record MayJoin (hash : List ℕ → List ℕ) (old : Ledger) (new : New) : Type 0 where
  pub behind : StandsBehind old.blocks new.block
  pub known : IsSome (state_at old.states new.before)
  pub rising : AreRising new.changes
  pub root : new.block.root ≡ root_of_map hash (map_after (map_at old.states new.before) new.changes)
  pub prepared : IsPreparedFor hash old.states (map_after (map_at old.states new.before) new.changes) new.prepared

-- the ledger with the block, whose map is known
abbrev pub joined : (List ℕ → List ℕ) → Ledger → New → Ledger
joined hash old new = record {
  blocks = old.blocks ++ new.block ∷ [];
  states = knows hash old.states (map_after (map_at old.states new.before) new.changes);
  limit = old.limit;
}

-- a block joins: it is the new head, or not
pub record Joins (hash : List ℕ → List ℕ) (old : Ledger) (new : New) (is_head : Bool) (after : Ledger) : Type 0 where
  pub room : length old.blocks < old.limit
  pub head : is_new_head (head_of old.blocks) new.block ≡ is_head
  pub is : after ≡ joined hash old new

abbrev pub JoinsAs : (List ℕ → List ℕ) → Ledger → New → Verdict → Ledger → Type 0
JoinsAs hash old new verdicts.Committed after = Joins hash old new true after
JoinsAs hash old new verdicts.Stored after = Joins hash old new false after
JoinsAs hash old new (verdicts.Refused fault) after = ⊥
