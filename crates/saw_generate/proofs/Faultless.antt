-- Desks of the built-in processors alone do not fail.
use Rattle.std.proofs.Common.{◌≡◌, ℕ, List, [], ◌∷◌, Option, Some, None, refl, arith}
use Rattle.saw_crew.specs.Desks.{Failed}
use Rattle.saw_station.specs.DeskPlaces.{Place, faults_by}

module _ {R : Type 0} (faults : R → ℕ) (none : (r : R) → faults r ≡ 0) where
  no_faults : (remote : Option R) → faults_by faults remote ≡ 0
  no_faults None = refl
  no_faults (Some remote) = none remote

  pub none_fails : (olds news : List (Place R)) → Failed faults olds news → ⊥
  none_fails [] news failed = failed
  none_fails (old ∷ olds) [] failed = failed
  none_fails (old ∷ olds) (new ∷ news) rose = let a = no_faults old.remote in let b = no_faults new.remote in absurd (omega (arith, a, b, rose))
