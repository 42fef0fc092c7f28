-- Who stands on whom where edges agree.
use Rattle.std.proofs.Common.{◌≡◌, ℕ, zero, suc, ◌<◌, ◌≤◌, Bool, ◌&&◌, ◌||◌, ◌==◌, refl, arith}
use Rattle.saw_machine.specs.Orders.{stands, stands_below}
use Rattle.saw_machine.proofs.Closure.{any-same}

-- edges to numbers below a bound decide who stands on whom there
module _ (first second : ℕ → ℕ → Bool) (n : ℕ) (agree : (j i : ℕ) → i < n → first j i ≡ second j i) where
  below-agree : (m i j : ℕ) → m ≤ n → stands_below first m i j ≡ stands_below second m i j
  below-agree zero i j fits = refl
  below-agree (suc m) i j fits =
      rw (
        any-same m (λ k. first k m && (k == j || stands_below first m k j)) (λ k. second k m && (k == j || stands_below second m k j))
            (λ k less. rw (agree k m (omega arith), below-agree m k j (omega arith)) refl),
        below-agree m i j (omega arith),
      )
      refl

  pub stands-agree : (i j : ℕ) → i < n → stands first i j ≡ stands second i j
  stands-agree i j less = below-agree (suc i) i j (omega arith)
