-- Where transactions go to deterministic processors there is one candidate.
use Rattle.std.proofs.Common.{◌≡◌, ℕ, Bool, true, List, [], ◌∷◌, map, Some, None, refl, ap, subst}
use Rattle.std.proofs.lemmas.Bool.{and_from, and_parts}
use Rattle.saw_address.specs.Maps.{StateMap}
use Rattle.saw_context.proofs.Coming.{from_told}
use Rattle.saw_context.specs.Outcome.{Processors}
use Rattle.saw_context.specs.Serial.{serial}
use Rattle.saw_context.specs.declared.batch_result.BatchResult.{BatchResult}
use Rattle.saw_messages.specs.declared.batch.Batch.{Batch}
use Rattle.saw_plan.specs.BatchShapes.{txs_of}
use Rattle.saw_plan.specs.StaticRules.{Ids}
use Rattle.saw_receipts.specs.Running.{Runs, RunsBy}
use Rattle.saw_receipts.specs.Shapes.{batch_in}
use Rattle.saw_receipts.specs.Telling.{tell_batches}
use Rattle.saw_rules.specs.Policies.{Policy}
use Rattle.saw_publish.specs.Building.{Answers, map_before}
use Rattle.saw_publish.specs.Drafts.{Draft, check_fates, draft_of, draft_of_results, judged_fates, of_all, static_fates}
use Rattle.saw_publish.specs.Fates.{Fates, still_in}
use Rattle.saw_publish.specs.Laws.{ToldIsBuiltOrStarves, ToldIsBuiltSerially}
use Rattle.saw_publish.specs.Room.{room_fates}

still_told : (processors : Processors) (fates : Fates) (batches : List Batch) → tell_batches processors batches ≡ true
    → tell_batches processors (still_in fates batches) ≡ true
still_told processors [] batches told = refl
still_told processors (fate ∷ fates) [] told = refl
still_told processors (None ∷ fates) (batch ∷ batches) told =
    let parts = and_parts _ (tell_batches processors batches) told in and_from _ _ parts.0 (still_told processors fates batches parts.1)
still_told processors (Some cause ∷ fates) (batch ∷ batches) told =
    let parts = and_parts _ (tell_batches processors batches) told in still_told processors fates batches parts.1

module _ (processors : Processors) (runs : Runs) (by : RunsBy processors runs) where
  abbrev serially : Runs
  serially = λ m batches. serial processors m batches

  -- the draft of batches that go to such processors is that of batches which are run one after another
  pub draft_told : (accepts : List ℕ → List ℕ → List ℕ → Bool) (policy : Policy) (signer : List ℕ) (before : StateMap) (there : Ids)
      (batches : List Batch) → tell_batches processors batches ≡ true
      → draft_of accepts policy signer runs before there batches ≡ draft_of accepts policy signer serially before there batches
  unfolding draft_of
  draft_told accepts policy signer before there batches told =
      let checked = check_fates accepts batches in
      let good = still_in checked batches in
      let roomy = still_in (room_fates [] good) good in
      let judged = judged_fates policy before signer roomy in
      let passed = still_in judged roomy in
      let kept = still_in (static_fates there passed) passed in
      let roomy_told = still_told processors (room_fates [] good) good (still_told processors checked batches told) in
      let kept_told = still_told processors (static_fates there passed) passed (still_told processors judged roomy roomy_told) in
      let txs = txs_of (map batch_in kept) in
      ap (λ (results : List BatchResult). of_all checked (of_all (room_fates [] good) (of_all judged (of_all (static_fates there passed) (draft_of_results before kept results)))))
      (from_told processors [] before txs (runs before txs) kept_told (by.serial before txs))

-- what is built of them is what is built of that draft
pub told_is_built : ToldIsBuiltSerially
told_is_built hash policy signing states parent processors accepts there batches result told built =
    let before = map_before states parent in
    subst (λ (draft : Draft). Answers hash policy signing states parent before draft result)
    (draft_told processors built.0 built.1 accepts policy signing.key before there batches told) built.2

module _ {R : Type 0} (faults : R → ℕ) where
  -- the answer of a call with the clauses of `build`
  pub told_is_built_or_starves : ToldIsBuiltOrStarves faults
  told_is_built_or_starves hash policy signing states parent processors accepts there batches old new result told built cause none = (
    told_is_built hash policy signing states parent processors accepts there batches result told built,
    λ failed. none (cause failed),
  )
