-- Batches that the static rules keep, judged once more.
use Rattle.std.proofs.Common.{◌≡◌, ℕ, ◌+◌, List, [], ◌∷◌, map, Option, Some, None, refl, ap, ◌∙◌}
use Rattle.std.specs.Prelude.{option_map}
use Rattle.saw_messages.specs.TxShapes.{BatchShape}
use Rattle.saw_messages.specs.declared.batch.Batch.{Batch}
use Rattle.saw_plan.specs.Sorting.{dropped_by}
use Rattle.saw_plan.specs.StaticRules.{Ids, after_batch, batch_cause, causes}
use Rattle.saw_plan.specs.declared.sorted.DropCause.{DropCause}
use Rattle.saw_receipts.specs.Shapes.{batch_in}
use Rattle.saw_receipts.specs.declared.loss.LossCause.TheVariants.{Static}
use Rattle.saw_publish.specs.Drafts.{static_fates}
use Rattle.saw_publish.specs.Fates.{still_in}

-- one after another, no batch has a cause to be dropped
abbrev pub IsPlanned : Ids → List BatchShape → Type 0
IsPlanned there [] = Unit {0}
IsPlanned there (batch ∷ batches) = (batch_cause there batch ≡ None) × IsPlanned (after_batch None there batch) batches

planned_by : (there : Ids) (batch : Batch) (batches : List Batch) (cause : Option DropCause) → batch_cause there (batch_in batch) ≡ cause
    → ((there : Ids) → IsPlanned there (map batch_in (still_in (static_fates there batches) batches)))
    → IsPlanned there (map batch_in (still_in
    (option_map Static cause ∷ static_fates (after_batch cause there (batch_in batch)) batches) (batch ∷ batches)))
planned_by there batch batches None is others = (is, others (after_batch None there (batch_in batch)))
planned_by there batch batches (Some cause) is others = others there

-- those that the static rules keep may all stay
pub planned_are : (batches : List Batch) (there : Ids) → IsPlanned there (map batch_in (still_in (static_fates there batches) batches))
planned_are [] there = tt
planned_are (batch ∷ batches) there = planned_by there batch batches (batch_cause there (batch_in batch)) refl (planned_are batches)

pub none_dropped : (place : ℕ) (there : Ids) (batches : List BatchShape) → IsPlanned there batches → dropped_by place (causes there batches) ≡ []
none_dropped place there [] planned = refl
none_dropped place there (batch ∷ batches) planned =
    ap (λ cause. dropped_by place (cause ∷ causes (after_batch cause there batch) batches)) planned.0
    ∙ none_dropped (place + 1) (after_batch None there batch) batches planned.1
