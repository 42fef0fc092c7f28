-- Where batches stand among numbered transactions.
use Rattle.std.specs.Prelude.{◌+◌, ℕ, List, [], ◌∷◌, ◌++◌, replicate}

-- the numbers after the last transactions of batches of these sizes, numbered from n on
abbrev pub ends_of : ℕ → List ℕ → List ℕ
ends_of n [] = []
ends_of n (size ∷ sizes) = (n + size) ∷ ends_of (n + size) sizes

-- for each transaction the first number of its batch
abbrev pub starts_of : ℕ → List ℕ → List ℕ
starts_of n [] = []
starts_of n (size ∷ sizes) = replicate size n ++ starts_of (n + size) sizes
