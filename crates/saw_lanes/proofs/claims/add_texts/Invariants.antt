use Rattle.std.proofs.Common.{take}
use Rattle.std.specs.List.{list_all}
use Rattle.saw_lanes.specs.Claims.{Adds, is_claimed}
use Rattle.saw_lanes.proofs.claims.add_texts.Given as goal

-- the texts so far are claimed
abbrev pub invariant-loop-text : goal.invariant-loop-text
invariant-loop-text l = Adds l.fn.claims.items l.claims.items (λ passes. list_all (is_claimed passes l.batch) (take l.text-index l.texts))
