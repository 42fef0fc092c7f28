-- Where the results of transactions stand among the steps.
use Rattle.std.specs.Prelude.{◌≢◌, ◌<◌, ◌≤◌, ℕ, List, length, Option, Some, None, slice_get}
use Rattle.saw_schedule.specs.declared.kept.Kept.{Kept}

abbrev pub place_by : Option Kept → ℕ
place_by None = 0
place_by (Some one) = one.place

-- the place of a transaction's last result
abbrev pub place_in : List Kept → ℕ → ℕ
place_in kept i = place_by (slice_get kept i)

-- the places of the transactions from one number on and below another are among so many
abbrev pub ArePlacesBelow : List Kept → ℕ → ℕ → ℕ → Type 0
ArePlacesBelow kept from to count = (to ≤ length kept) × ((i : ℕ) → from ≤ i → i < to → place_in kept i < count)

-- no two of them are the same
abbrev pub ArePlacesApart : List Kept → ℕ → ℕ → Type 0
ArePlacesApart kept from to = (i j : ℕ) → from ≤ i → i < j → j < to → place_in kept i ≢ place_in kept j

-- the place is none of them
abbrev pub IsNoPlace : List Kept → ℕ → ℕ → ℕ → Type 0
IsNoPlace kept from to place = (i : ℕ) → from ≤ i → i < to → place_in kept i ≢ place
