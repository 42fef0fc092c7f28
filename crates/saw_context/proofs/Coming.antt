-- What may come of batches: where processors are told, the serial results, and always states of addresses.
use Rattle.std.proofs.Common.{◌≡◌, Bool, true, List, [], ◌∷◌, refl, sym, ap, ap₂, subst, ◌∙◌}
use Rattle.std.specs.FinMap as finite
use Rattle.std.specs.List.{AllByRecursion}
use Rattle.std.proofs.lemmas.Bool.{and_parts}
use Rattle.saw_address.specs.Maps.{StateMap, AreAddresses, is_address}
use Rattle.saw_messages.specs.Reasons.{has_own_reason}
use Rattle.saw_messages.specs.TxShapes.{TxShape}
use Rattle.saw_messages.specs.declared.outcome.Change.{Change}
use Rattle.saw_messages.specs.declared.outcome.Outcome.{Outcome}
use Rattle.saw_messages.specs.declared.outcome.Outcome.TheVariants as outcomes
use Rattle.saw_messages.specs.declared.receipt.Event.{Event}
use Rattle.saw_messages.specs.declared.talk.Turn.{Turn}
use Rattle.saw_context.specs.Conversation.{are_covering}
use Rattle.saw_context.specs.Outcome.{Processors, map_after, outcome_by, outcome_of, refusal}
use Rattle.saw_context.specs.Possible.{ThenOthers, MayCome, MayComeFrom, MayComeOfBatch, all_told, are_told, is_told}
use Rattle.saw_context.specs.Serial.{batch_result, behind, failed_with, goes_on, left_after, left_by, names_one, serial_from}
use Rattle.saw_context.specs.declared.batch_result.BatchResult.{BatchResult}
use Rattle.saw_context.specs.declared.batch_result.BatchResult.TheVariants.{Applied, Failed}
use Rattle.saw_context.proofs.Addresses.{addresses_after}
use Rattle.saw_context.proofs.Conversations.{conversed-next}
use Rattle.saw_context.proofs.Each.{all_weaker}
use Rattle.saw_context.proofs.Kept.{access_kept}

-- of a transaction whose processor is told, its outcome alone may come
pub told_comes : (processors : Processors) (tx : TxShape) (m : StateMap) (failed : Bool) (outcome : Outcome) → is_told processors tx ≡ true
    → MayCome processors tx m failed outcome → outcome ≡ outcome_of processors tx m failed
told_comes processors tx m failed outcome told may =
    may.decided ∙ ap (outcome_by (refusal processors tx) failed) (conversed-next may.next (processors.next tx) tx.header m (may.answers.told told))

module _ (processors : Processors) where
  -- ---- where processors are told

  -- what comes behind an outcome that is known
  goes_on_told : (failed : List TxShape) (m : StateMap) (tx : TxShape) (txs : List TxShape) (result : BatchResult) (outcome : Outcome)
      → outcome ≡ outcome_of processors tx m (names_one tx failed)
      → ((n : StateMap) (others : BatchResult) → MayComeOfBatch processors failed n txs others → others ≡ batch_result processors failed n txs)
      → ThenOthers (λ n others. MayComeOfBatch processors failed n txs others) m outcome result → result ≡ batch_result processors failed m (tx ∷ txs)
  goes_on_told failed m tx txs result (outcomes.Ok changes events) is later goes =
      goes.2 ∙ ap (behind (outcomes.Ok changes events)) (later (map_after m changes) goes.0 goes.1)
      ∙ ap (λ o. goes_on o (λ changes. batch_result processors failed (map_after m changes) txs)) is
  goes_on_told failed m tx txs result (outcomes.Invalid reason) is later goes = goes
      ∙ ap (λ o. goes_on o (λ changes. batch_result processors failed (map_after m changes) txs)) is

  -- of a batch whose transactions are told, its result alone may come
  batch_told : (failed : List TxShape) (m : StateMap) (txs : List TxShape) (result : BatchResult) → all_told processors txs ≡ true
      → MayComeOfBatch processors failed m txs result → result ≡ batch_result processors failed m txs
  batch_told failed m [] result told may = may
  batch_told failed m (tx ∷ txs) result told may =
      let parts = and_parts (is_told processors tx) (all_told processors txs) told in
      goes_on_told failed m tx txs result may.0 (told_comes processors tx m (names_one tx failed) may.0 parts.0 may.1)
      (λ n others comes. batch_told failed n txs others parts.1 comes) may.2

  -- the serial results alone may come
  pub from_told : (failed : List TxShape) (m : StateMap) (batches : List (List TxShape)) (results : List BatchResult)
      → are_told processors batches ≡ true → MayComeFrom processors failed m batches results
      → results ≡ serial_from processors failed m batches
  from_told failed m [] results told may = may
  from_told failed m (txs ∷ batches) results told may =
      let parts = and_parts (all_told processors txs) (are_told processors batches) told in
      let first : may.0 ≡ batch_result processors failed m txs = batch_told failed m txs may.0 parts.0 may.2 in
      may.4 ∙ ap₂ ◌∷◌ first (from_told (failed_with failed txs may.0) (left_by m may.0) batches may.1 parts.1 may.3
      ∙ ap (λ result. serial_from processors (failed_with failed txs result) (left_by m result) batches) first)

  -- ---- the serial results

  module _ (own : (tx : TxShape) (turns : List Turn) → has_own_reason (processors.next tx turns) ≡ true) where
    -- a transaction's own outcome may come
    outcome_comes : (tx : TxShape) (m : StateMap) (failed : Bool) → MayCome processors tx m failed (outcome_of processors tx m failed)
    outcome_comes tx m failed = record { next = processors.next tx; answers = record { reasons = own tx; told = λ told turns. refl }; decided = refl }

    -- what comes behind an outcome, if the serial results of the rest may come
    goes_on_serial : (failed : List TxShape) (m : StateMap) (txs : List TxShape) (outcome : Outcome)
        → ((n : StateMap) → MayComeOfBatch processors failed n txs (batch_result processors failed n txs))
        → ThenOthers (λ n others. MayComeOfBatch processors failed n txs others) m outcome
        (goes_on outcome (λ changes. batch_result processors failed (map_after m changes) txs))
    goes_on_serial failed m txs (outcomes.Ok changes events) later =
        (batch_result processors failed (map_after m changes) txs, later (map_after m changes), refl)
    goes_on_serial failed m txs (outcomes.Invalid reason) later = refl

    -- a batch's own result may come
    batch_comes : (failed : List TxShape) (m : StateMap) (txs : List TxShape) → MayComeOfBatch processors failed m txs (batch_result processors failed m txs)
    batch_comes failed m [] = refl
    batch_comes failed m (tx ∷ txs) = (
      outcome_of processors tx m (names_one tx failed),
      outcome_comes tx m (names_one tx failed),
      goes_on_serial failed m txs
          (outcome_of processors tx m (names_one tx failed)) (λ n. batch_comes failed n txs),
    )

    -- the serial results may come
    pub from_comes : (failed : List TxShape) (m : StateMap) (batches : List (List TxShape))
        → MayComeFrom processors failed m batches (serial_from processors failed m batches)
    from_comes failed m [] = refl
    from_comes failed m (txs ∷ batches) =
        let result = batch_result processors failed m txs in (
          result,
          serial_from processors (failed_with failed txs result) (left_by m result) batches,
          batch_comes failed m txs,
          from_comes
              (failed_with failed txs result) (left_by m result) batches,
          refl,
        )

  -- ---- states of addresses

  -- what is left by one more outcome
  left_behind : (m : StateMap) (changes : List Change) (events : List Event) (others : BatchResult) → AreAddresses (finite.entries m)
      → AreAddresses (finite.entries (left_by (map_after m changes) others))
      → AreAddresses (finite.entries (left_by m (behind (outcomes.Ok changes events) others)))
  left_behind m changes events (Applied outcomes) are left = left
  left_behind m changes events (Failed t reason) are left = are

  -- what is left behind an outcome that changes addresses, if the rest leaves such
  goes_on_left : (failed : List TxShape) (m : StateMap) (txs : List TxShape) (result : BatchResult) (outcome : Outcome)
      → ((changes : List Change) (events : List Event) → outcome ≡ outcomes.Ok changes events
      → AllByRecursion (λ change. is_address change.address ≡ true) changes)
      → ((n : StateMap) (others : BatchResult) → MayComeOfBatch processors failed n txs others → AreAddresses (finite.entries n)
      → AreAddresses (finite.entries (left_by n others)))
      → AreAddresses (finite.entries m) → ThenOthers (λ n others. MayComeOfBatch processors failed n txs others) m outcome result
      → AreAddresses (finite.entries (left_by m result))
  goes_on_left failed m txs result (outcomes.Ok changes events) addresses later are goes =
      let left : AreAddresses (finite.entries (left_by (map_after m changes) goes.0)) =
      later (map_after m changes) goes.0 goes.1 (addresses_after m changes (addresses changes events refl) are) in
      subst (λ (result : BatchResult). AreAddresses (finite.entries (left_by m result))) (sym goes.2) (left_behind m changes events goes.0 are left)
  goes_on_left failed m txs result (outcomes.Invalid reason) addresses later are goes =
      subst (λ (result : BatchResult). AreAddresses (finite.entries (left_by m result))) (sym goes) are

  -- a transaction changes addresses
  pub changes_addresses : (tx : TxShape) (m : StateMap) (failed : Bool) (outcome : Outcome) → MayCome processors tx m failed outcome
      → (changes : List Change) (events : List Event) → outcome ≡ outcomes.Ok changes events
      → AllByRecursion (λ change. is_address change.address ≡ true) changes
  changes_addresses tx m failed outcome may changes events is =
      let kept = access_kept processors tx m failed outcome may in
      all_weaker (λ (change : Change). (are_covering tx.header.outputs change.address ≡ true) × (is_address change.address ≡ true))
      (λ (change : Change). is_address change.address ≡ true) (λ change both. both.1) changes (kept.outputs changes events is)

  -- a batch leaves entries at addresses alone
  batch_left : (failed : List TxShape) (m : StateMap) (txs : List TxShape) (result : BatchResult) → MayComeOfBatch processors failed m txs result
      → AreAddresses (finite.entries m) → AreAddresses (finite.entries (left_by m result))
  batch_left failed m [] result may are = subst (λ (result : BatchResult). AreAddresses (finite.entries (left_by m result))) (sym may) are
  batch_left failed m (tx ∷ txs) result may are =
      goes_on_left failed m txs result may.0 (changes_addresses tx m (names_one tx failed) may.0 may.1)
      (λ n others comes of_n. batch_left failed n txs others comes of_n) are may.2

  -- batches leave entries at addresses alone
  pub from_left : (failed : List TxShape) (m : StateMap) (batches : List (List TxShape)) (results : List BatchResult)
      → AreAddresses (finite.entries m) → MayComeFrom processors failed m batches results
      → AreAddresses (finite.entries (left_after m results))
  from_left failed m [] results are may = subst (λ (results : List BatchResult). AreAddresses (finite.entries (left_after m results))) (sym may) are
  from_left failed m (txs ∷ batches) results are may =
      subst (λ (results : List BatchResult). AreAddresses (finite.entries (left_after m results))) (sym may.4)
      (from_left (failed_with failed txs may.0) (left_by m may.0) batches may.1 (batch_left failed m txs may.0 may.2 are) may.3)
