use Rattle.std.proofs.Common.{◌≡◌, take}
use Rattle.saw_runs.proofs.beside.same_front.Given as goal

-- those up to here are the same
abbrev pub invariant-loop-at : goal.invariant-loop-at
invariant-loop-at l = take l.at l.ones ≡ take l.at l.others
