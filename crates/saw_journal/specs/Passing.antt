-- What comes of a block's batches by the rules on them and by their run.
use Rattle.std.specs.Prelude.{◌≡◌, ℕ, List, Option, Some, None, Result, Ok, Err}
use Rattle.saw_address.specs.Maps.{StateMap}
use Rattle.saw_context.specs.Outcome.{Processors}
use Rattle.saw_context.specs.Possible.{MayComeOfAll}
use Rattle.saw_messages.specs.TxShapes.{BatchShape}
use Rattle.saw_plan.specs.BatchShapes.{txs_of}
use Rattle.saw_plan.specs.StaticRules.{Ids}
use Rattle.saw_receipts.specs.declared.verdict.BlockFault.{BlockFault}
use Rattle.saw_rules.specs.Policies.{Policy}
use Rattle.saw_schedule.specs.BatchResults.{AreResultsFor}
use Rattle.saw_schedule.specs.declared.results.Results.{Results}
use Rattle.saw_journal.specs.BlockFaults.{first_in, rule_tests}
use Rattle.saw_journal.specs.Stops.{IsStop}
use Rattle.saw_journal.specs.declared.fault.JournalFault.TheVariants as faults
use Rattle.saw_journal.specs.declared.stop.Stop.{Stop}
use Rattle.saw_journal.specs.declared.stop.Stop.TheVariants.{Refused, Failed}

module _ (policy : Policy) (m : StateMap) (signer : List ℕ) (there : Ids) (batches : List BatchShape) where
  -- the first reason why batches may not stand in a block by this signer over a map
  abbrev pub rule_fault : Option BlockFault
  rule_fault = first_in (rule_tests policy there m signer batches)

  -- they may stand in it, or this is the first fault
  abbrev pub PassesAs : Result (Unit {0}) Stop → Type 0
  PassesAs (Ok passed) = rule_fault ≡ None
  PassesAs (Err stop) = IsStop rule_fault stop

-- results that batches may have over a map, one for each
pub record AreOf (processors : Processors) (m : StateMap) (batches : List BatchShape) (results : Results) : Type 0 where
  pub may : MayComeOfAll processors m (txs_of batches) results.batches
  pub fit : AreResultsFor (txs_of batches) results.batches

module _ (processors : Processors) (peer : Type 0) (policy : Policy) (m : StateMap) (signer : List ℕ) (there : Ids) (batches : List BatchShape) where
  -- both, where nothing is against the batches; only memory fails, and a processor, where `peer` tells of it
  abbrev pub RanAs : Result Results Stop → Type 0
  RanAs (Ok results) = (rule_fault policy m signer there batches ≡ None) × AreOf processors m batches results
  RanAs (Err (Refused fault)) = rule_fault policy m signer there batches ≡ Some fault
  RanAs (Err (Failed (faults.Collision kept given))) = ⊥
  RanAs (Err (Failed faults.Full)) = ⊥
  RanAs (Err (Failed faults.PeerFailed)) = peer
  RanAs (Err (Failed faults.OutOfMemory)) = Unit {0}
