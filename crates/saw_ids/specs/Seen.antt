-- Ids, and sets of them.
use Rattle.std.specs.Prelude.{◌≡◌, ℕ, Bool, List}
use Rattle.std.specs.List.{list_any}
use Rattle.std.specs.Str.{bytes_eq}
use Rattle.std.specs.Ordering.{nat_cmp}
use Rattle.std.specs.Cmp.Lexicographic.{slice_cmp}
use Rattle.std.specs.BTreeSet.{BTreeSet, contains}

-- whether the id is one of these
abbrev pub is_among : List (List ℕ) → List ℕ → Bool
is_among ids id = list_any (λ other. bytes_eq other id) ids

-- the set has exactly these ids
abbrev pub HoldsIds : BTreeSet (List ℕ) → List (List ℕ) → Type 0
HoldsIds seen ids = (q : List ℕ) → contains (slice_cmp nat_cmp) seen q ≡ is_among ids q
