-- Ids that were seen.
use Rattle.std.specs.Prelude.{ℕ, Bool, false, ◌||◌, List, [], ◌∷◌, ◌++◌}
use Rattle.std.specs.List.{list_any}
use Rattle.std.specs.Str.{bytes_eq}

-- whether an id stands among those before it, or twice in the list
abbrev pub repeats_after : List (List ℕ) → List (List ℕ) → Bool
repeats_after earlier [] = false
repeats_after earlier (id ∷ ids) = list_any (λ other. bytes_eq other id) earlier || repeats_after (earlier ++ id ∷ []) ids
