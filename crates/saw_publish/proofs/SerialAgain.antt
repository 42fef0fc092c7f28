-- Batches that were applied, run again without those that failed.
use Rattle.std.proofs.Common.{◌≡◌, ℕ, ◌+◌, Bool, true, false, List, [], ◌∷◌, map, Option, Some, None, refl, sym, ap, subst, ◌∙◌}
use Rattle.std.specs.List.{AllByRecursion, list_any}
use Rattle.saw_address.specs.Maps.{StateMap}
use Rattle.saw_context.specs.Outcome.{Processors, conversed, map_after, outcome_by, refusal}
use Rattle.saw_context.specs.Serial.{batch_result, behind, failed_with, goes_on, left_after, left_by, names_one, serial, serial_from}
use Rattle.saw_context.specs.declared.batch_result.BatchResult.{BatchResult}
use Rattle.saw_context.specs.declared.batch_result.BatchResult.TheVariants.{Applied, Failed}
use Rattle.saw_messages.specs.TxShapes.{BatchShape, TxShape}
use Rattle.saw_messages.specs.declared.outcome.Change.{Change}
use Rattle.saw_messages.specs.declared.outcome.Outcome.{Outcome}
use Rattle.saw_messages.specs.declared.outcome.Outcome.TheVariants as outcomes
use Rattle.saw_messages.specs.declared.outcome.Reason.{Reason}
use Rattle.saw_plan.specs.BatchShapes.{txs_of}
use Rattle.saw_schedule.specs.BatchResults.{first_failure}
use Rattle.saw_publish.specs.Drafts.{run_fate}
use Rattle.saw_publish.specs.Fates.{still_in}

-- the result of a batch that is applied
abbrev pub IsApplied : BatchResult → Type 0
IsApplied (Applied outcomes) = Unit {0}
IsApplied (Failed t reason) = ⊥

-- none of these transactions names one of those that failed
abbrev pub NameNone : List TxShape → List TxShape → Type 0
NameNone failed txs = AllByRecursion (λ tx. names_one tx failed ≡ false) txs

never_any : (ids : List (List ℕ)) → list_any (λ id. false) ids ≡ false
never_any [] = refl
never_any (id ∷ ids) = never_any ids

applied_inside : (outcome : Outcome) (result : BatchResult) → IsApplied (behind outcome result) → IsApplied result
applied_inside outcome (Applied outcomes) applied = tt
applied_inside outcome (Failed t reason) applied = absurd applied

-- ---- one transaction of an applied batch

module _ (others : List Change → BatchResult) where
  -- it names none that failed
  names_none : (refused : Option Reason) (named : Bool) (talked : Outcome) → IsApplied (goes_on (outcome_by refused named talked) others) → named ≡ false
  names_none (Some reason) named talked applied = absurd applied
  names_none None true talked applied = absurd applied
  names_none None false talked applied = refl

  -- the others of its batch are applied behind it
  others_applied : {Q : Type 0} (refused : Option Reason) (named : Bool) (talked : Outcome)
      → ((changes : List Change) → IsApplied (others changes) → Q) → IsApplied (goes_on (outcome_by refused named talked) others) → Q
  others_applied (Some reason) named talked then applied = absurd applied
  others_applied None true talked then applied = absurd applied
  others_applied None false (outcomes.Invalid reason) then applied = absurd applied
  others_applied None false (outcomes.Ok changes events) then applied =
      then changes (applied_inside (outcomes.Ok changes events) (others changes) applied)

  -- without those that failed the same comes of it
  goes_on_again : (alone : List Change → BatchResult) (refused : Option Reason) (named : Bool) (talked : Outcome)
      → ((changes : List Change) → IsApplied (others changes) → alone changes ≡ others changes)
      → IsApplied (goes_on (outcome_by refused named talked) others)
      → goes_on (outcome_by refused false talked) alone ≡ goes_on (outcome_by refused named talked) others
  goes_on_again alone (Some reason) named talked same applied = absurd applied
  goes_on_again alone None true talked same applied = absurd applied
  goes_on_again alone None false (outcomes.Invalid reason) same applied = absurd applied
  goes_on_again alone None false (outcomes.Ok changes events) same applied =
      ap (behind (outcomes.Ok changes events)) (same changes (applied_inside (outcomes.Ok changes events) (others changes) applied))

module _ (processors : Processors) where
  -- ---- one batch

  pub applied_names : (failed : List TxShape) (m : StateMap) (txs : List TxShape) → IsApplied (batch_result processors failed m txs) → NameNone failed txs
  applied_names failed m [] applied = tt
  applied_names failed m (tx ∷ txs) applied =
      let others : List Change → BatchResult = λ changes. batch_result processors failed (map_after m changes) txs in
      let talked = conversed (processors.next tx) tx.header m in (
        names_none others (refusal processors tx) (names_one tx failed) talked applied,
        others_applied others (refusal processors tx) (names_one tx failed) talked (λ changes. applied_names failed (map_after m changes) txs) applied,
      )

  batch_again : (failed : List TxShape) (m : StateMap) (txs : List TxShape)
      → IsApplied (batch_result processors failed m txs) → batch_result processors [] m txs ≡ batch_result processors failed m txs
  batch_again failed m [] applied = refl
  batch_again failed m (tx ∷ txs) applied =
      let alone : List Change → BatchResult = λ changes. batch_result processors [] (map_after m changes) txs in
      let talked = conversed (processors.next tx) tx.header m in
      ap (λ named. goes_on (outcome_by (refusal processors tx) named talked) alone) (never_any tx.header.dependencies)
      ∙ goes_on_again (λ changes. batch_result processors failed (map_after m changes) txs) alone (refusal processors tx) (names_one tx failed) talked
      (λ changes. batch_again failed (map_after m changes) txs) applied

  -- ---- batches one after another

  -- run by themselves over the map, none of these batches fails, and they leave the map that these results leave
  abbrev pub RunAgain : StateMap → List BatchResult → List BatchShape → Type 0
  RunAgain m results batches =
      ((k : ℕ) → first_failure k (serial processors m (txs_of batches)) ≡ None)
      × (left_after m (serial processors m (txs_of batches)) ≡ left_after m results)

  one_more : (m : StateMap) (batch : BatchShape) (outcomes : List Outcome) (results : List BatchResult) (kept : List BatchShape)
      → batch_result processors [] m batch.txs ≡ Applied outcomes
      → RunAgain (left_by m (Applied outcomes)) results kept → RunAgain m (Applied outcomes ∷ results) (batch ∷ kept)
  one_more m batch outcomes results kept is others =
      subst
      (λ (result : BatchResult).
      let again = result ∷ serial_from processors (failed_with [] batch.txs result) (left_by m result) (txs_of kept) in
      ((k : ℕ) → first_failure k again ≡ None) × (left_after m again ≡ left_after m (Applied outcomes ∷ results))) (sym is)
      (λ k. others.0 (k + 1), others.1)

  run_again_by : (failed : List TxShape) (m : StateMap) (batch : BatchShape) (batches : List BatchShape) (result : BatchResult)
      → batch_result processors failed m batch.txs ≡ result
      → ((failed : List TxShape) (m : StateMap)
      → let results = serial_from processors failed m (txs_of batches) in RunAgain m results (still_in (map run_fate results) batches))
      → let results = result ∷ serial_from processors (failed_with failed batch.txs result) (left_by m result) (txs_of batches) in
      RunAgain m results (still_in (map run_fate results) (batch ∷ batches))
  run_again_by failed m batch batches (Failed t reason) is others = others (failed_with failed batch.txs (Failed t reason)) m
  run_again_by failed m batch batches (Applied outcomes) is others =
      let results = serial_from processors failed (left_by m (Applied outcomes)) (txs_of batches) in
      one_more m batch outcomes results (still_in (map run_fate results) batches) (batch_again failed m batch.txs (subst IsApplied (sym is) tt) ∙ is)
      (others failed (left_by m (Applied outcomes)))

  -- the batches that are applied are applied again by themselves
  pub run_again : (batches : List BatchShape) (failed : List TxShape) (m : StateMap)
      → let results = serial_from processors failed m (txs_of batches) in RunAgain m results (still_in (map run_fate results) batches)
  run_again [] failed m = (λ k. refl, refl)
  run_again (batch ∷ batches) failed m = run_again_by failed m batch batches (batch_result processors failed m batch.txs) refl (run_again batches)
