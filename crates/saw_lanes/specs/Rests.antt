-- What is left of each list, where items are taken from the front of one or another.
use Rattle.std.specs.Prelude.{◌≡◌, ◌≢◌, ℕ, List, [], ◌∷◌}
use Rattle.saw_lanes.specs.Lanes.{part_at}

-- the first item of one list is taken, and all others stay as they were
pub record Takes {A : Type 0} (old : List (List A)) (lane : ℕ) (item : A) (new : List (List A)) : Type 0 where
  pub here : part_at old lane ≡ item ∷ part_at new lane
  pub others : (other : ℕ) → other ≢ lane → part_at new other ≡ part_at old other

-- no list has an item
abbrev pub AreSpent : {A : Type 0} → List (List A) → Type 0
AreSpent rests = (lane : ℕ) → part_at rests lane ≡ []
