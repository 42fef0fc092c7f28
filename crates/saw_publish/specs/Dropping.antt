-- The batches that the static rules drop, as those of a list in order.
use Rattle.std.specs.Prelude.{ℕ, Bool, false, ◌==◌, List, [], ◌∷◌}
use Rattle.saw_plan.specs.declared.sorted.Dropped.{Dropped}

-- whether the first of dropped batches has this place
abbrev pub begins_at : ℕ → List Dropped → Bool
begins_at place [] = false
begins_at place (dropped ∷ others) = dropped.place == place
