-- What a draft takes, taken again by itself.
use Rattle.std.proofs.Common.{◌≡◌, ℕ, List, [], map, None, subst}
use Rattle.saw_address.specs.Maps.{StateMap}
use Rattle.saw_context.specs.Outcome.{Processors}
use Rattle.saw_context.specs.Serial.{left_after, serial}
use Rattle.saw_messages.specs.TxShapes.{BatchShape}
use Rattle.saw_messages.specs.declared.batch.Batch.{Batch}
use Rattle.saw_plan.specs.BatchShapes.{txs_of}
use Rattle.saw_plan.specs.Sorting.{dropped_by}
use Rattle.saw_plan.specs.StaticRules.{Ids, causes}
use Rattle.saw_receipts.specs.Shapes.{batch_in}
use Rattle.saw_rules.specs.Policies.{Policy}
use Rattle.saw_schedule.specs.BatchResults.{first_failure}
use Rattle.saw_publish.specs.Drafts.{check_fates, draft_of, draft_of_good, draft_of_passed, draft_of_results, draft_of_roomy, judged_fates, run_fate, static_fates}
use Rattle.saw_publish.specs.Fates.{still_in}
use Rattle.saw_publish.specs.Laws.{AppliedApplyAgain}
use Rattle.saw_publish.specs.Room.{room_fates}
use Rattle.saw_publish.proofs.Planned.{IsPlanned, none_dropped, planned_are}
use Rattle.saw_publish.proofs.RulesAgain.{applied_planned}
use Rattle.saw_publish.proofs.SerialAgain.{run_again}
use Rattle.saw_publish.proofs.Staying.{still_in_map}

module _ (processors : Processors) (before : StateMap) (there : Ids) where
  -- the static rules drop none of these batches, none fails, and they leave this map
  abbrev Again : List BatchShape → StateMap → Type 0
  Again shapes left =
      (dropped_by 0 (causes there shapes) ≡ [])
      × (first_failure 0 (serial processors before (txs_of shapes)) ≡ None)
      × (left_after before (serial processors before (txs_of shapes)) ≡ left)

  -- batches that the static rules keep
  planned_again : (shapes : List BatchShape) → IsPlanned there shapes
      → let results = serial processors before (txs_of shapes) in Again (still_in (map run_fate results) shapes) (left_after before results)
  planned_again shapes planned =
      let again = run_again processors shapes [] before in
      (none_dropped 0 there _ (applied_planned processors shapes there before planned), again.0 0, again.1)

  run_batches_again : (batches : List Batch) → IsPlanned there (map batch_in batches)
      → let draft = draft_of_results before batches (serial processors before (txs_of (map batch_in batches))) in
      Again (map batch_in draft.applied) draft.left
  run_batches_again batches planned =
      let results = serial processors before (txs_of (map batch_in batches)) in
      subst (λ shapes. Again shapes (left_after before results)) (still_in_map batch_in (map run_fate results) batches)
      (planned_again (map batch_in batches) planned)

  passed_again : (batches : List Batch)
      → let draft = draft_of_passed (λ m others. serial processors m others) before there batches in Again (map batch_in draft.applied) draft.left
  passed_again batches = run_batches_again (still_in (static_fates there batches) batches) (planned_are batches there)

  module _ (policy : Policy) (signer : List ℕ) where
    roomy_again : (batches : List Batch)
        → let draft = draft_of_roomy policy signer (λ m others. serial processors m others) before there batches in
        Again (map batch_in draft.applied) draft.left
    roomy_again batches = passed_again (still_in (judged_fates policy before signer batches) batches)

    good_again : (batches : List Batch)
        → let draft = draft_of_good policy signer (λ m others. serial processors m others) before there batches in
        Again (map batch_in draft.applied) draft.left
    good_again batches = roomy_again (still_in (room_fates [] batches) batches)

pub applied_apply_again : AppliedApplyAgain
unfolding draft_of
applied_apply_again accepts policy signer processors before there batches =
    good_again processors before there policy signer (still_in (check_fates accepts batches) batches)
