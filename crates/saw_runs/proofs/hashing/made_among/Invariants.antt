use Rattle.std.proofs.Common.{◌≡◌, map, take}
use Rattle.saw_runs.specs.Lowers.{made_among}
use Rattle.saw_runs.proofs.hashing.made_among.Given as goal

-- those among the kids up to here
abbrev pub invariant-loop-kid : goal.invariant-loop-kid
invariant-loop-kid l = map (λ run. run.now) l.runs.items ≡ made_among (take l.kid-index l.kids)
