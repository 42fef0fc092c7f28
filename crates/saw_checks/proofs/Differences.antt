-- The first difference of two lists, as a loop finds it.
use Rattle.std.proofs.Common.{◌≡◌, ℕ, ◌+◌, ◌<◌, List, [], length, drop, Option, Some, ap, arith}
use Rattle.std.specs.Prelude.{option_map}
use Rattle.std.proofs.lemmas.List.{drop_more}
use Rattle.saw_checks.specs.Tests.{first_difference}

-- the first difference of lists, after equal parts of that length
abbrev pub after : ℕ → Option ℕ → Option ℕ
after n found = option_map (λ k. k + n) found

-- the found ones have ended
pub ends_first : (listed : List (List ℕ)) (n : ℕ) → n < length listed → after n (first_difference (drop n listed) []) ≡ Some n
ends_first listed n lt = rw (drop_more listed n [] lt) (ap (λ (m : ℕ). Some m) (omega arith))
