-- Lists of which something may be missing.
use Rattle.std.proofs.Common.{◌≡◌, ℕ, ◌<◌, List, [], ◌∷◌, map, length, get_or, Option, Some, None, zero, suc, refl, ap, ◌∙◌, arith}
use Rattle.saw_xo.specs.Games.{before_all, all_of}

module _ {A : Type 0} where
  pub all_of-Some : (xs : List A) → all_of (map (λ (x : A). Some x) xs) ≡ Some xs
  all_of-Some [] = refl
  all_of-Some (x ∷ xs) = ap (before_all (Some x)) (all_of-Some xs)

  before_all-None : (x : Option A) → before_all x None ≡ None
  before_all-None (Some x) = refl
  before_all-None None = refl

  -- where one is missing there is no whole
  pub all_of-missing : (xs : List (Option A)) (i : ℕ) (d : Option A) → i < length xs → get_or xs i d ≡ None → all_of xs ≡ None
  all_of-missing [] i d h e = absurd (omega arith)
  all_of-missing (x ∷ xs) zero d h e = ap (λ o. before_all o (all_of xs)) e
  all_of-missing (x ∷ xs) (suc i) d h e = ap (before_all x) (all_of-missing xs i d (omega arith) e) ∙ before_all-None x
