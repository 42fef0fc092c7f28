-- How entries are written one after another.
use Rattle.std.specs.Prelude.{ℕ, List, [], ◌∷◌, ◌++◌}

-- an entry after those before it
abbrev pub joined : List ℕ → List ℕ → List ℕ
joined [] entry = entry
joined (b ∷ front) entry = (b ∷ front) ++ 124 ∷ entry
