use Rattle.std.proofs.Common.{Some, take}
use Rattle.saw_runs.specs.Below.{LeadsTo}
use Rattle.saw_runs.specs.Readings.{read_at}
use Rattle.saw_runs.proofs.listing.run_below.Given as goal

-- the run leads on below the bytes up to here
abbrev pub invariant-loop-byte : goal.invariant-loop-byte
invariant-loop-byte g l = LeadsTo (read_at l.tables) l.root (take l.byte-index l.prefix) (Some (l.below.0.now, l.below.1))
