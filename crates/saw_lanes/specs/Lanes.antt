-- Lanes of batches, and what came of each.
use Rattle.std.specs.Prelude.{◌≡◌, ℕ, zero, suc, List, [], ◌∷◌, length}
use Rattle.saw_messages.specs.TxShapes.{TxShape}
use Rattle.saw_context.specs.Lanes.{KeepToLanes}

-- a lane for each batch; each address belongs to one lane
pub record AreLanes (batches : List (List TxShape)) (lanes : List ℕ) : Type 0 where
  pub owner : List ℕ → ℕ
  pub keep : KeepToLanes owner lanes batches
  pub all : length lanes ≡ length batches

-- the part at a place; behind the last part there is nothing
abbrev pub part_at : {A : Type 0} → List (List A) → ℕ → List A
part_at [] lane = []
part_at (part ∷ parts) zero = part
part_at (part ∷ parts) (suc lane) = part_at parts lane
