-- Ids and names that all differ.
use Rattle.std.specs.Prelude.{ℕ, Bool, true, ◌&&◌, not, List, [], ◌∷◌}
use Rattle.std.specs.List.{list_any}
use Rattle.std.specs.Str.{bytes_eq}

-- whether no text stands in the list twice
abbrev pub are_distinct : List (List ℕ) → Bool
are_distinct [] = true
are_distinct (text ∷ texts) = not (list_any (λ other. bytes_eq other text) texts) && are_distinct texts
