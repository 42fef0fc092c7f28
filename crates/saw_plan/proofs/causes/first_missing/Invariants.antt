use Rattle.std.proofs.Common.{◌≡◌, ◌++◌, ℕ, List, drop}
use Rattle.saw_ids.specs.Seen.{HoldsIds}
use Rattle.saw_plan.specs.StaticRules.{Ids, first_missing}
use Rattle.saw_plan.proofs.causes.first_missing.Given as goal

-- the first that is missing is the first of the rest
abbrev pub invariant-loop-dependency : goal.invariant-loop-dependency
invariant-loop-dependency g l = (there : Ids) (before : List (List ℕ)) → g.K.KnownIds.knows l.known there
    → HoldsIds l.earlier before → first_missing (there.transactions ++ before) l.dependencies
    ≡ first_missing (there.transactions ++ before) (drop l.dependency-index l.dependencies)
