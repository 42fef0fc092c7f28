use Rattle.std.proofs.Common.{◌≡◌, ℕ, Bool, true, drop}
use Rattle.std.specs.List.{list_all}
use Rattle.saw_lanes.specs.Claims.{are_claimed}
use Rattle.saw_plan.specs.BatchShapes.{txs_of}
use Rattle.saw_lanes.proofs.claims.claims_of.Given as goal

-- all are claimed where the rest is
abbrev pub invariant-loop-k : goal.invariant-loop-k
invariant-loop-k l = (passes : ℕ × ℕ → Bool) → list_all passes l.claims.items ≡ true
    → are_claimed passes l.k (txs_of (drop l.k l.batches)) ≡ true → are_claimed passes 0 (txs_of l.batches) ≡ true
