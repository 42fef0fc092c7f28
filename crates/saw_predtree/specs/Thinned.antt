-- What is given of what was found.
use Rattle.std.specs.Prelude.{◌≡◌, ◌≤◌, ◌<◌, ◌⊎◌, ℕ, true, List, [], ◌∷◌, ◌++◌, length, get_or}
use Rattle.std.specs.List.Sorted.{IsStrictlySortedBy}
use Rattle.std.specs.Ordering.{nat_cmp}
use Rattle.saw_predtree.specs.Trees.{is_in}

-- none, or the reach of one that was found
pub record IsReachOfOne (reaches found : List ℕ) (reach : ℕ) : Type 0 where
  pub by : ℕ
  pub one : is_in found by ≡ true
  pub is : reach ≡ get_or reaches by 0

abbrev pub IsReachIn : List ℕ → List ℕ → ℕ → Type 0
IsReachIn reaches found reach = (reach ≡ 0) ⊎ IsReachOfOne reaches found reach

-- those that were found from a number on, rising
pub record AreFrom (found : List ℕ) (from : ℕ) (given : List ℕ) : Type 0 where
  pub rising : IsStrictlySortedBy nat_cmp given
  pub among : (j : ℕ) → is_in given j ≡ true → (from ≤ j) × (is_in found j ≡ true)
  pub whole : (j : ℕ) → from ≤ j → is_in found j ≡ true → is_in given j ≡ true

-- all below the reach is below another, or given
abbrev pub IsReachWith : ℕ → List ℕ → ℕ → Type 0
IsReachWith from given reach = (j : ℕ) → j < reach → (j < from) ⊎ (is_in given j ≡ true)

-- a reach is put behind where it has its place there
abbrev pub PutsReach : List ℕ → List ℕ → ℕ → ℕ → Type 0
PutsReach old new n reach = (new ≡ old) ⊎ ((length old ≡ n) × (new ≡ old ++ reach ∷ []))
