-- Batches of which no id is there, and that name no dependencies: the static rules drop none.
use Rattle.std.proofs.Common.{◌≡◌, ◌+◌, ℕ, Bool, true, false, List, [], ◌∷◌, ◌++◌, append_assoc, map, Option, None, Some, refl, sym, ap, ap₂, ◌∙◌}
use Rattle.std.specs.Prelude.{if◌then◌else◌, option_map}
use Rattle.std.specs.List.{AllByRecursion, flat_map}
use Rattle.std.specs.Option.{option_or}
use Rattle.std.proofs.lemmas.List.Concat.{flat_map-cons}
use Rattle.std.proofs.lemmas.Simd.{map-map}
use Rattle.saw_checks.specs.BatchFaults.{ids_of}
use Rattle.saw_context.proofs.Each.{all_left}
use Rattle.saw_ids.specs.Seen.{is_among}
use Rattle.saw_messages.specs.Distinct.{are_distinct}
use Rattle.saw_messages.specs.TxShapes.{TxShape, shape_in}
use Rattle.saw_messages.specs.declared.batch.Batch.{Batch}
use Rattle.saw_messages.specs.declared.transaction.Transaction.{Transaction}
use Rattle.saw_plan.specs.Sorting.{dropped_by}
use Rattle.saw_plan.specs.StaticRules.{Ids, after_batch, batch_cause, causes, first_missing, tx_cause, txs_cause}
use Rattle.saw_plan.specs.declared.sorted.DropCause.{DropCause}
use Rattle.saw_plan.specs.declared.sorted.DropCause.TheVariants.{DuplicateBatch, DuplicateTransaction, MissingDependency}
use Rattle.saw_receipts.specs.Shapes.{batch_in}
use Rattle.saw_generate.proofs.Places.{later_apart}

-- its transactions name no dependencies
abbrev pub IsFree : Batch → Type 0
IsFree batch = AllByRecursion (λ tx. (shape_in tx).header.dependencies ≡ []) batch.transactions

-- ---- one batch

no_tx_cause : (there earlier : List (List ℕ)) (t : ℕ) (tx : Transaction) → is_among there tx.header_signature ≡ false
    → (shape_in tx).header.dependencies ≡ [] → tx_cause there earlier t (shape_in tx) ≡ None
no_tx_cause there earlier t tx fresh free =
    ap₂ (λ (known : Bool) (named : List (List ℕ)). if known then Some (DuplicateTransaction t)
    else option_map (MissingDependency t) (first_missing (there ++ earlier) named)) fresh free

no_txs_cause : (there earlier : List (List ℕ)) (t : ℕ) (txs : List Transaction) → AllByRecursion (λ id. is_among there id ≡ false) (ids_of txs)
    → AllByRecursion (λ tx. (shape_in tx).header.dependencies ≡ []) txs → txs_cause there earlier t (map shape_in txs) ≡ None
no_txs_cause there earlier t [] fresh free = refl
no_txs_cause there earlier t (tx ∷ txs) fresh free =
    ap (λ (cause : Option DropCause). option_or cause (txs_cause there (earlier ++ tx.header_signature ∷ []) (t + 1) (map shape_in txs)))
    (no_tx_cause there earlier t tx fresh.0 free.0)
    ∙ no_txs_cause there (earlier ++ tx.header_signature ∷ []) (t + 1) txs fresh.1 free.1

no_batch_cause : (there : Ids) (batch : Batch) → is_among there.batches batch.header_signature ≡ false
    → AllByRecursion (λ id. is_among there.transactions id ≡ false) (ids_of batch.transactions) → IsFree batch → batch_cause there (batch_in batch) ≡ None
no_batch_cause there batch fresh others free =
    ap (λ (known : Bool). if known then Some DuplicateBatch else txs_cause there.transactions [] 0 (map shape_in batch.transactions)) fresh
    ∙ no_txs_cause there.transactions [] 0 batch.transactions others free

-- ---- batches one after another

-- what is there and the ids of more batches
abbrev pub batch_ids : Ids → List Batch → List (List ℕ)
batch_ids there batches = there.batches ++ map (λ batch. batch.header_signature) batches

abbrev pub transaction_ids : Ids → List Batch → List (List ℕ)
transaction_ids there batches = there.transactions ++ flat_map (λ batch. ids_of batch.transactions) batches

module _ (there : Ids) (batch : Batch) (batches : List Batch) where
  -- with the ids of the first batch
  abbrev now : Ids
  now = after_batch None there (batch_in batch)

  batches_now : batch_ids now batches ≡ batch_ids there (batch ∷ batches)
  batches_now = append_assoc there.batches (batch.header_signature ∷ []) (map (λ (batch : Batch). batch.header_signature) batches)

  transactions_now : transaction_ids now batches ≡ transaction_ids there (batch ∷ batches)
  transactions_now =
      let ids = ids_of batch.transactions in
      let rest = flat_map (λ (batch : Batch). ids_of batch.transactions) batches in
      ap (λ (more : List (List ℕ)). (there.transactions ++ more) ++ rest) (map-map (λ (tx : TxShape). tx.id) shape_in batch.transactions)
      ∙ append_assoc there.transactions ids rest
      ∙ ap (λ (more : List (List ℕ)). there.transactions ++ more) (sym (flat_map-cons (λ (batch : Batch). ids_of batch.transactions) batch batches))

  first_kept : are_distinct (batch_ids there (batch ∷ batches)) ≡ true → are_distinct (transaction_ids there (batch ∷ batches)) ≡ true → IsFree batch
      → batch_cause there (batch_in batch) ≡ None
  first_kept differ others free =
      let ids = ids_of batch.transactions in
      let rest = flat_map (λ (batch : Batch). ids_of batch.transactions) batches in
      let cut = ap (λ (more : List (List ℕ)). there.transactions ++ more) (flat_map-cons (λ (batch : Batch). ids_of batch.transactions) batch batches) in
      let apart = later_apart there.transactions (ids ++ rest) (ap are_distinct (sym cut) ∙ others) in
      no_batch_cause there batch
      (later_apart there.batches (batch.header_signature ∷ map (λ (batch : Batch). batch.header_signature) batches) differ).0
      (all_left (λ id. is_among there.transactions id ≡ false) ids rest apart) free

-- the static rules drop none of them
pub none_dropped : (place : ℕ) (there : Ids) (batches : List Batch) → AllByRecursion IsFree batches → are_distinct (batch_ids there batches) ≡ true
    → are_distinct (transaction_ids there batches) ≡ true → dropped_by place (causes there (map batch_in batches)) ≡ []
none_dropped place there [] free differ others = refl
none_dropped place there (batch ∷ batches) free differ others =
    ap (λ (cause : Option DropCause). dropped_by place (cause ∷ causes (after_batch cause there (batch_in batch)) (map batch_in batches)))
    (first_kept there batch batches differ others free.0)
    ∙ none_dropped (place + 1) (now there batch batches) batches free.1 (ap are_distinct (batches_now there batch batches) ∙ differ)
    (ap are_distinct (transactions_now there batch batches) ∙ others)
