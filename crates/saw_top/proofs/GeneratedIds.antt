-- The ids that are kept of a block of which each batch is applied: those of its batches and of their transactions.
use Rattle.std.proofs.Common.{◌≡◌, ℕ, List, [], ◌∷◌, ◌++◌, map, refl, sym, ap, ap₂, ◌∙◌}
use Rattle.std.specs.List.{AllByRecursion, flat_map}
use Rattle.std.proofs.lemmas.List.Concat.{flat_map-cons}
use Rattle.std.proofs.lemmas.Simd.{map-map}
use Rattle.saw_address.specs.Maps.{StateMap}
use Rattle.saw_checks.specs.BatchFaults as messages
use Rattle.saw_context.specs.Outcome.{Processors, map_after, outcome_of}
use Rattle.saw_context.specs.Serial.{batch_result, behind, failed_with, goes_on, left_by, names_one, serial, serial_from}
use Rattle.saw_context.specs.declared.batch_result.BatchResult.{BatchResult}
use Rattle.saw_context.specs.declared.batch_result.BatchResult.TheVariants.{Applied, Failed}
use Rattle.saw_generate.specs.Laws.{IsApplied}
use Rattle.saw_journal.specs.Judgement.{batch_records, outcomes_in}
use Rattle.saw_messages.specs.TxShapes.{TxShape, shape_in}
use Rattle.saw_messages.specs.declared.batch.Batch.{Batch}
use Rattle.saw_messages.specs.declared.outcome.Change.{Change}
use Rattle.saw_messages.specs.declared.receipt.Event.{Event}
use Rattle.saw_messages.specs.declared.outcome.Outcome.{Outcome}
use Rattle.saw_messages.specs.declared.outcome.Outcome.TheVariants as outcomes
use Rattle.saw_messages.specs.declared.receipt.Receipt.{Receipt}
use Rattle.saw_plan.specs.BatchShapes.{ids_of, txs_of}
use Rattle.saw_receipts.specs.Branches.{batch_ids}
use Rattle.saw_receipts.specs.Receipts.{receipts}
use Rattle.saw_receipts.specs.Shapes.{batch_in}
use Rattle.saw_receipts.specs.declared.block.BatchRecord.{BatchRecord}

-- ---- one batch

-- the ids in the receipts of transactions with these ids, of a batch with this result
abbrev told : List (List ℕ) → BatchResult → List (List ℕ)
told ids result = map (λ receipt. receipt.transaction_id) (receipts ids (outcomes_in result))

told_more : (id : List ℕ) (ids : List (List ℕ)) (changes : List Change) (events : List Event) (result : BatchResult)
    → (IsApplied result → told ids result ≡ ids) → IsApplied (behind (outcomes.Ok changes events) result)
    → told (id ∷ ids) (behind (outcomes.Ok changes events) result) ≡ id ∷ ids
told_more id ids changes events (Applied outcomes) others applied = ap (λ (rest : List (List ℕ)). id ∷ rest) (others tt)
told_more id ids changes events (Failed t reason) others applied = absurd applied

told_by : (outcome : Outcome) (id : List ℕ) (ids : List (List ℕ)) (others : List Change → BatchResult)
    → ((changes : List Change) → IsApplied (others changes) → told ids (others changes) ≡ ids) → IsApplied (goes_on outcome others)
    → told (id ∷ ids) (goes_on outcome others) ≡ id ∷ ids
told_by (outcomes.Ok changes events) id ids others each applied = told_more id ids changes events (others changes) (each changes) applied
told_by (outcomes.Invalid reason) id ids others each applied = absurd applied

module _ (processors : Processors) where
  told_all : (failed : List TxShape) (txs : List TxShape) (m : StateMap) → IsApplied (batch_result processors failed m txs)
      → told (ids_of txs) (batch_result processors failed m txs) ≡ ids_of txs
  told_all failed [] m applied = refl
  told_all failed (tx ∷ txs) m applied =
      told_by (outcome_of processors tx m (names_one tx failed)) tx.id (ids_of txs) (λ changes. batch_result processors failed (map_after m changes) txs)
      (λ changes. told_all failed txs (map_after m changes)) applied

  -- ---- batches one after another

  batches_told : (batches : List Batch) (failed : List TxShape) (m : StateMap)
      → (let results = serial_from processors failed m (txs_of (map batch_in batches)) in
      (batch_ids (batch_records (map batch_in batches) results)).batches ≡ map (λ batch. batch.header_signature) batches)
  batches_told [] failed m = refl
  batches_told (batch ∷ batches) failed m =
      let txs = map shape_in batch.transactions in
      let result = batch_result processors failed m txs in
      ap (λ (rest : List (List ℕ)). batch.header_signature ∷ rest) (batches_told batches (failed_with failed txs result) (left_by m result))

  transactions_told : (batches : List Batch) (failed : List TxShape) (m : StateMap)
      → (let results = serial_from processors failed m (txs_of (map batch_in batches)) in AllByRecursion IsApplied results
      → (batch_ids (batch_records (map batch_in batches) results)).transactions ≡ flat_map (λ batch. messages.ids_of batch.transactions) batches)
  transactions_told [] failed m all = refl
  transactions_told (batch ∷ batches) failed m all =
      let txs = map shape_in batch.transactions in
      let result = batch_result processors failed m txs in
      let results = serial_from processors (failed_with failed txs result) (left_by m result) (txs_of (map batch_in batches)) in
      let first : told (ids_of txs) result ≡ messages.ids_of batch.transactions =
      told_all failed txs m all.0 ∙ map-map (λ (tx : TxShape). tx.id) shape_in batch.transactions in
      flat_map-cons (λ (batch : BatchRecord). map (λ (receipt : Receipt). receipt.transaction_id) batch.receipts)
      (record { id = batch.header_signature; receipts = receipts (ids_of txs) (outcomes_in result) }) (batch_records (map batch_in batches) results)
      ∙ ap₂ (λ (here rest : List (List ℕ)). here ++ rest) first
      (transactions_told batches (failed_with failed txs result) (left_by m result) all.1)
      ∙ sym (flat_map-cons (λ (batch : Batch). messages.ids_of batch.transactions) batch batches)

  pub kept_ids : (batches : List Batch) (m : StateMap)
      → (let results = serial processors m (txs_of (map batch_in batches)) in AllByRecursion IsApplied results
      → batch_ids (batch_records (map batch_in batches) results)
      ≡ record { batches = map (λ batch. batch.header_signature) batches; transactions = flat_map (λ batch. messages.ids_of batch.transactions) batches })
  kept_ids batches m all =
      ap₂ (λ (ids others : List (List ℕ)). record { batches = ids; transactions = others }) (batches_told batches [] m) (transactions_told batches [] m all)
