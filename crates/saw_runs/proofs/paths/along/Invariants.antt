use Rattle.std.proofs.Common.{◌≡◌, ◌+◌, drop}
use Rattle.saw_runs.specs.Paths.{along}
use Rattle.saw_runs.proofs.paths.along.Given as goal

-- those passed and those that are still to come are all
abbrev pub invariant-loop-at : goal.invariant-loop-at
invariant-loop-at l = l.at + along (drop l.at l.path) (drop l.at l.bytes) ≡ along l.path l.bytes
