-- Sets of numbers as flags.
use Rattle.std.specs.Prelude.{◌≡◌, ◌<◌, ◌≤◌, ◌+◌, ◌*◌, ℕ, Bool, true, false, List, length, get_or, Option, Some, None}

-- none from one number on and below another is there
abbrev pub NoneIn : List Bool → ℕ → ℕ → Type 0
NoneIn flags from to = (i : ℕ) → from ≤ i → i < to → get_or flags i false ≡ false

-- none is there
abbrev pub IsEmpty : List Bool → Type 0
IsEmpty flags = (i : ℕ) → get_or flags i false ≡ false

-- the first that is there, from one number on and below another
abbrev pub IsNext : List Bool → ℕ → ℕ → Option ℕ → Type 0
IsNext flags from to None = NoneIn flags from to
IsNext flags from to (Some k) = (from ≤ k) × (k < to) × (get_or flags k false ≡ true) × NoneIn flags from k

-- a block without a mark has none of its 128 numbers
pub record Covers (flags blocks : List Bool) : Type 0 where
  pub enough : length flags < length blocks * 128
  pub few : length blocks * 128 ≤ length flags + 128
  pub marked : (b i : ℕ) → b * 128 ≤ i → i < b * 128 + 128 → get_or flags i false ≡ true
      → get_or blocks b false ≡ true
