-- What came of batches that were run.
use Rattle.std.specs.Prelude.{◌≡◌, List, length, map, option_map}
use Rattle.saw_address.specs.Maps.{StateMap}
use Rattle.saw_context.specs.Changed.{AreRising}
use Rattle.saw_context.specs.Outcome.{map_after}
use Rattle.saw_context.specs.Serial.{left_after}
use Rattle.saw_messages.specs.TxShapes.{BatchShape}
use Rattle.saw_messages.specs.declared.batch.Batch.{Batch}
use Rattle.saw_plan.specs.BatchShapes.{txs_of}
use Rattle.saw_plan.specs.Sorting.{kept_by}
use Rattle.saw_plan.specs.StaticRules.{Ids, causes}
use Rattle.saw_receipts.specs.Running.{Runs}
use Rattle.saw_receipts.specs.Shapes.{batch_in}
use Rattle.saw_receipts.specs.declared.loss.LossCause.TheVariants as losses
use Rattle.saw_publish.specs.Drafts.{Draft, run_fate}
use Rattle.saw_publish.specs.Fates.{further, still_in}
use Rattle.saw_publish.specs.Room.{encoded}
use Rattle.saw_publish.specs.declared.judge.Passed.{Passed}
use Rattle.saw_publish.specs.declared.run.Ran.{Ran}

-- the batches that the static rules keep
abbrev pub kept_of : Ids → List BatchShape → List BatchShape
kept_of there batches = kept_by (causes there batches) batches

-- the fates of batches by the static rules and by their results, and the changes that lead to the map that they leave
pub record IsRan (runs : Runs) (before : StateMap) (there : Ids) (batches : List BatchShape) (ran : Ran) : Type 0 where
  pub sized : length (runs before (txs_of (kept_of there batches))) ≡ length (kept_of there batches)
  pub fates : ran.fates ≡ further (map (option_map losses.Static) (causes there batches))
      (map run_fate (runs before (txs_of (kept_of there batches))))
  pub changes : map_after before ran.changes ≡ left_after before (runs before (txs_of (kept_of there batches)))
  pub rising : AreRising ran.changes

-- a draft of batches that passed and were run
pub record IsDraft (before : StateMap) (passed : Passed) (ran : Ran) (draft : Draft) : Type 0 where
  pub fates : further passed.fates ran.fates ≡ draft.fates
  pub staying : List Batch
  pub batches : passed.batches ≡ map batch_in staying
  pub encodings : passed.encodings ≡ map encoded staying
  pub applied : still_in ran.fates staying ≡ draft.applied
  pub left : map_after before ran.changes ≡ draft.left
