-- A list of which no batch is dropped.
use Rattle.std.proofs.Common.{◌≡◌, ℕ, ◌+◌, List, [], ◌∷◌, Option, Some, None, refl, ap}
use Rattle.saw_messages.specs.TxShapes.{BatchShape}
use Rattle.saw_plan.specs.Sorting.{kept_by, dropped_by}
use Rattle.saw_plan.specs.StaticRules.{Ids, batch_cause, after_batch, causes}
use Rattle.saw_plan.specs.declared.sorted.DropCause.{DropCause}

-- where the first is not dropped, it is kept
first_kept : (place : ℕ) (cause : Option DropCause) (others : List (Option DropCause)) (batch : BatchShape) (batches : List BatchShape)
    → (dropped_by (place + 1) others ≡ [] → kept_by others batches ≡ batches)
    → dropped_by place (cause ∷ others) ≡ [] → kept_by (cause ∷ others) (batch ∷ batches) ≡ batch ∷ batches
first_kept place None others batch batches rest none = ap (λ kept. batch ∷ kept) (rest none)
first_kept place (Some cause) others batch batches rest none = absurd cc

pub none_dropped : (place : ℕ) (there : Ids) (batches : List BatchShape) → dropped_by place (causes there batches) ≡ []
    → kept_by (causes there batches) batches ≡ batches
none_dropped place there [] none = refl
none_dropped place there (batch ∷ batches) none =
    let now = after_batch (batch_cause there batch) there batch in
    first_kept place (batch_cause there batch) (causes now batches) batch batches (none_dropped (place + 1) now batches) none
