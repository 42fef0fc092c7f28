-- Which batches of a list a new block takes, and what they leave of the map before it.
use Rattle.std.specs.Prelude.{ℕ, Bool, List, [], map, Option, Some, None, option_map}
use Rattle.saw_address.specs.Maps.{StateMap}
use Rattle.saw_checks.specs.BatchFaults.{batch_fault}
use Rattle.saw_context.specs.Serial.{left_after}
use Rattle.saw_context.specs.declared.batch_result.BatchResult.{BatchResult}
use Rattle.saw_context.specs.declared.batch_result.BatchResult.TheVariants.{Applied, Failed}
use Rattle.saw_messages.specs.declared.batch.Batch.{Batch}
use Rattle.saw_plan.specs.BatchShapes.{txs_of}
use Rattle.saw_plan.specs.StaticRules.{Ids, causes}
use Rattle.saw_receipts.specs.Running.{Runs}
use Rattle.saw_receipts.specs.Shapes.{batch_in}
use Rattle.saw_receipts.specs.declared.loss.LossCause.{LossCause}
use Rattle.saw_receipts.specs.declared.loss.LossCause.TheVariants as losses
use Rattle.saw_rules.specs.Policies.{Policy}
use Rattle.saw_publish.specs.Fates.{Fates, further, still_in}
use Rattle.saw_publish.specs.Judging.{policy_fates}
use Rattle.saw_publish.specs.Room.{room_fates}

-- the fate of each batch, the batches that are applied, in order, and the map that they leave
pub record Draft : Type 0 where
  pub fates : Fates
  pub applied : List Batch
  pub left : StateMap

-- a draft of those batches that stay in, as one of all
abbrev pub of_all : Fates → Draft → Draft
of_all fates draft = record { fates = further fates draft.fates; applied = draft.applied; left = draft.left }

-- a failed batch is left out
abbrev pub run_fate : BatchResult → Option LossCause
run_fate (Applied outcomes) = None
run_fate (Failed t reason) = Some (losses.Invalid t reason)

-- the fates of batches that are checked, each by itself
abbrev pub check_fates : (List ℕ → List ℕ → List ℕ → Bool) → List Batch → Fates
check_fates accepts batches = map (λ batch. option_map losses.Check (batch_fault accepts batch)) batches

-- the fates of batches by the static rules
abbrev pub static_fates : Ids → List Batch → Fates
static_fates there batches = map (option_map losses.Static) (causes there (map batch_in batches))

-- the fates of batches by a policy, for a block by this signer
abbrev pub judged_fates : Policy → StateMap → List ℕ → List Batch → Fates
judged_fates policy before signer batches = policy_fates policy.fault before signer [] (map batch_in batches)

-- of batches that are run, with these results
abbrev pub draft_of_results : StateMap → List Batch → List BatchResult → Draft
draft_of_results before batches results =
    record { fates = map run_fate results; applied = still_in (map run_fate results) batches; left = left_after before results }

module _ (runs : Runs) (before : StateMap) where
  -- of batches that are run
  abbrev pub draft_of_run : List Batch → Draft
  draft_of_run batches = draft_of_results before batches (runs before (txs_of (map batch_in batches)))

  -- of batches that passed, against the ids that are there: those that the static rules keep are run
  abbrev pub draft_of_passed : Ids → List Batch → Draft
  draft_of_passed there batches = of_all (static_fates there batches) (draft_of_run (still_in (static_fates there batches) batches))

module _ (policy : Policy) (signer : List ℕ) (runs : Runs) (before : StateMap) where
  -- of batches that found room: those that the policy lets pass go on
  abbrev pub draft_of_roomy : Ids → List Batch → Draft
  draft_of_roomy there batches =
      of_all (judged_fates policy before signer batches)
      (draft_of_passed runs before there (still_in (judged_fates policy before signer batches) batches))

  -- of batches without fault: those that find room go on
  abbrev pub draft_of_good : Ids → List Batch → Draft
  draft_of_good there batches = of_all (room_fates [] batches) (draft_of_roomy there (still_in (room_fates [] batches) batches))

-- of all batches of a list, in a block by this signer: those without fault go on
unfoldable pub draft_of : (List ℕ → List ℕ → List ℕ → Bool) → Policy → List ℕ → Runs → StateMap → Ids → List Batch → Draft
draft_of accepts policy signer runs before there batches =
    of_all (check_fates accepts batches)
    (draft_of_good policy signer runs before there (still_in (check_fates accepts batches) batches))
