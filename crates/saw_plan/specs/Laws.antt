-- What is true of the static rules.
use Rattle.std.specs.Prelude.{◌≡◌, List, []}
use Rattle.saw_messages.specs.TxShapes.{BatchShape}
use Rattle.saw_plan.specs.StaticRules.{Ids, causes}
use Rattle.saw_plan.specs.Sorting.{kept_by, dropped_by}

-- where none is dropped, all are kept
abbrev pub NothingDroppedKeepsAll : Type 0
NothingDroppedKeepsAll = (there : Ids) (batches : List BatchShape) → dropped_by 0 (causes there batches) ≡ [] → kept_by (causes there batches) batches ≡ batches
