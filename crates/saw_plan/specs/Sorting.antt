-- The kept and the dropped batches of a list.
use Rattle.std.specs.Prelude.{◌≡◌, ℕ, ◌+◌, List, [], ◌∷◌, Option, Some, None}
use Rattle.saw_messages.specs.TxShapes.{BatchShape}
use Rattle.saw_plan.specs.StaticRules.{Ids, causes}
use Rattle.saw_plan.specs.declared.sorted.DropCause.{DropCause}
use Rattle.saw_plan.specs.declared.sorted.Dropped.{Dropped}
use Rattle.saw_plan.specs.declared.sorted.Sorted.{Sorted}

-- the batches that have no cause to be dropped
abbrev pub kept_by : List (Option DropCause) → List BatchShape → List BatchShape
kept_by [] batches = []
kept_by (cause ∷ causes) [] = []
kept_by (None ∷ causes) (batch ∷ batches) = batch ∷ kept_by causes batches
kept_by (Some cause ∷ causes) (batch ∷ batches) = kept_by causes batches

-- their places, of which the first in the list is given
abbrev pub places_by : ℕ → List (Option DropCause) → List ℕ
places_by place [] = []
places_by place (None ∷ causes) = place ∷ places_by (place + 1) causes
places_by place (Some cause ∷ causes) = places_by (place + 1) causes

-- the dropped ones with their places and causes
abbrev pub dropped_by : ℕ → List (Option DropCause) → List Dropped
dropped_by place [] = []
dropped_by place (None ∷ causes) = dropped_by (place + 1) causes
dropped_by place (Some cause ∷ causes) = record { place = place; cause = cause } ∷ dropped_by (place + 1) causes

-- what the static rules make of batches
pub record IsSorted (there : Ids) (batches : List BatchShape) (sorted : Sorted) : Type 0 where
  pub plan : sorted.plan.batches ≡ kept_by (causes there batches) batches
  pub places : sorted.places ≡ places_by 0 (causes there batches)
  pub dropped : sorted.dropped ≡ dropped_by 0 (causes there batches)
