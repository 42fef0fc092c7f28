-- The table of families, row by row.
use Rattle.std.proofs.Common.{◌≡◌, ℕ, ◌+◌, ◌<◌, ◌≤◌, Bool, true, false, List, [], length, map, get_or, drop, Option, Some, None, refl, sym, ◌∙◌, drop_of_length-le}
use Rattle.std.proofs.lemmas.List.{at_drop_more}
use Rattle.saw_station.specs.Families.{Row, first_of, is_family, row}
use Rattle.saw_station.specs.declared.serving.Family.{Family}

module _ (family version : List ℕ) (all : List Family) where
  -- the first of the name and version from a place on
  abbrev pub from : ℕ → Option Row
  from i = first_of family version (map row (drop i all))

  module _ (i : ℕ) (d : Family) (more : i < length all) where
    abbrev here : Bool
    here = is_family (row (get_or all i d)).name (row (get_or all i d)).version family version

    pub skipped : here ≡ false → from (i + 1) ≡ from i
    skipped is = sym (at_drop_more (λ (rest : List Family). first_of family version (map row rest)) all i d more ∙ rw is refl)

    pub found : here ≡ true → Some (row (get_or all i d)) ≡ from i
    found is = sym (at_drop_more (λ (rest : List Family). first_of family version (map row rest)) all i d more ∙ rw is refl)

  pub none_left : (i : ℕ) → length all ≤ i → None ≡ from i
  none_left i past = let nothing : drop i all ≡ [] = drop_of_length-le all past in rw nothing refl
