-- The batches one after another.
use Rattle.std.specs.Prelude.{◌≡◌, ◌⊎◌, ℕ, List, [], ◌∷◌, ◌++◌, Option, Some, None, slice_get, take}
use Rattle.saw_messages.specs.TxShapes.{BatchShape}
use Rattle.saw_plan.specs.BatchShapes.{ids_of}
use Rattle.saw_plan.specs.StaticRules.{Ids, Knows, after_batches, batch_cause, with_batch_id, with_transactions}
use Rattle.saw_plan.specs.declared.known.Beside.{Beside}
use Rattle.saw_plan.specs.declared.sorted.DropCause.{DropCause}
use Rattle.saw_plan.specs.declared.sorted.Dropped.{Dropped}
use Rattle.saw_plan.specs.declared.sorted.Sorted.{Sorted}

-- the ids of both
abbrev pub both : Ids → Ids → Ids
both there more = record { batches = there.batches ++ more.batches; transactions = there.transactions ++ more.transactions }

-- exactly these ids are known: those that stay as they are, and those that were added
abbrev pub KnowsBoth : Beside → Ids → Type 0
KnowsBoth beside there = (known added : Ids) × Knows beside.known.now known × Knows beside.added added × (both known added ≡ there)

-- a sorting, with its batches by themselves
pub record Sorting : Type 0 where
  pub plan : List BatchShape
  pub places : List ℕ
  pub dropped : List Dropped

abbrev pub sorting_of : Sorted → Sorting
sorting_of sorted = record { plan = sorted.plan.batches; places = sorted.places; dropped = sorted.dropped }

-- a sorting with one more batch that is kept
abbrev pub with_kept : ℕ → BatchShape → Sorting → Sorting
with_kept place batch sorting = record { plan = sorting.plan ++ batch ∷ []; places = sorting.places ++ place ∷ []; dropped = sorting.dropped }

-- a sorting with one more batch that is dropped
abbrev pub with_dropped : ℕ → DropCause → Sorting → Sorting
with_dropped place cause sorting = record { plan = sorting.plan; places = sorting.places; dropped = sorting.dropped ++ record { place = place; cause = cause } ∷ [] }

-- a sorting with one more batch
abbrev pub with_batch : Option DropCause → ℕ → BatchShape → Sorting → Sorting
with_batch None place batch sorting = with_kept place batch sorting
with_batch (Some cause) place batch sorting = with_dropped place cause sorting

-- of a batch that is sorted the id and those of some of its transactions are known, if it is kept
abbrev pub KnowsPart : {K : Type 0} → (K → Ids → Type 0) → K → Ids → BatchShape → Type 0
KnowsPart knows known there batch =
    (m : ℕ) × (batch_cause there batch ≡ None) × knows known (with_transactions (with_batch_id there batch.id) (take m (ids_of batch.txs)))

-- what is known when sorting stops early: all that is known after some batches, and maybe of the next, kept one its id and those of some of its transactions
abbrev pub KnowsFront : {K : Type 0} → (K → Ids → Type 0) → K → Ids → List BatchShape → Type 0
KnowsFront knows known there batches =
    (n : ℕ) × (knows known (after_batches there (take n batches))
    ⊎ ((batch : BatchShape) × (slice_get batches n ≡ Some batch) × KnowsPart knows known (after_batches there (take n batches)) batch))
