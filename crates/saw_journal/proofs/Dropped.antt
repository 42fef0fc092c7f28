-- Blocks of which no batch is dropped.
use Rattle.std.proofs.Common.{◌≡◌, ℕ, ◌+◌, List, [], ◌∷◌, Option, Some, None, refl, sym, ap, ◌∙◌, arith}
use Rattle.std.proofs.lemmas.List.{append_assoc, append-nil}
use Rattle.std.proofs.lemmas.List.Concat.{flat_map-cons}
use Rattle.saw_plan.proofs.Whole.{none_dropped}
use Rattle.saw_messages.specs.TxShapes.{BatchShape}
use Rattle.saw_plan.specs.BatchShapes.{ids_of}
use Rattle.saw_plan.specs.Sorting.{IsSorted, dropped_by}
use Rattle.saw_plan.specs.SortingSteps.{both}
use Rattle.saw_plan.specs.StaticRules.{Ids, after_batch, after_batches, batch_cause, causes}
use Rattle.saw_plan.specs.declared.sorted.DropCause.{DropCause}
use Rattle.saw_plan.specs.declared.sorted.Dropped.{Dropped}
use Rattle.saw_plan.specs.declared.sorted.Sorted.{Sorted}
use Rattle.saw_journal.specs.BlockFaults.{first_dropped, static_fault}
use Rattle.saw_journal.specs.KnownBranches.{own_ids}

empty_from : (dropped : List Dropped) → None ≡ first_dropped dropped → dropped ≡ []
empty_from [] none = refl
empty_from (one ∷ others) none = absurd (grind (arith, none))

-- none is dropped
pub nothing_dropped : (there : Ids) (batches : List BatchShape) (sorted : Sorted) → IsSorted there batches sorted → None ≡ first_dropped sorted.dropped
    → dropped_by 0 (causes there batches) ≡ []
nothing_dropped there batches sorted is none = sym is.dropped ∙ empty_from sorted.dropped none

pub none_from : (there : Ids) (batches : List BatchShape) (sorted : Sorted) → IsSorted there batches sorted → None ≡ first_dropped sorted.dropped
    → (static_fault there batches ≡ None) × (sorted.plan.batches ≡ batches)
none_from there batches sorted is none =
    let empty = nothing_dropped there batches sorted is none in
    (ap first_dropped empty, is.plan ∙ none_dropped 0 there batches empty)

-- ---- the ids that are added then

kept : (place : ℕ) (cause : Option DropCause) (others : List (Option DropCause)) → dropped_by place (cause ∷ others) ≡ []
    → (cause ≡ None) × (dropped_by (place + 1) others ≡ [])
kept place None others none = (refl, none)
kept place (Some cause) others none = absurd cc

one_more : (there : Ids) (batch : BatchShape) (batches : List BatchShape)
    → both (after_batch None there batch) (own_ids batches) ≡ both there (own_ids (batch ∷ batches))
one_more there batch batches =
    rw (
      append_assoc there.batches (batch.id ∷ []) (own_ids batches).batches,
      append_assoc there.transactions (ids_of batch.txs) (own_ids batches).transactions,
      flat_map-cons (λ (one : BatchShape). ids_of one.txs) batch batches,
    ) refl

-- the ids of all are there then
pub all_added : (place : ℕ) (there : Ids) (batches : List BatchShape) → dropped_by place (causes there batches) ≡ []
    → after_batches there batches ≡ both there (own_ids batches)
all_added place there [] none = rw (append-nil there.batches, append-nil there.transactions) refl
all_added place there (batch ∷ batches) none =
    let now = after_batch (batch_cause there batch) there batch in
    let parts = kept place (batch_cause there batch) (causes now batches) none in
    all_added (place + 1) now batches parts.1
    ∙ ap (λ (cause : Option DropCause). both (after_batch cause there batch) (own_ids batches)) parts.0 ∙ one_more there batch batches
