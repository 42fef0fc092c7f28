use Rattle.std.proofs.Common.{take}
use Rattle.saw_runs.specs.Idle.{AreActive}
use Rattle.saw_runs.specs.Readings.{read_at}
use Rattle.saw_runs.proofs.effective.first_idle.Given as goal

abbrev pub invariant-loop-at : goal.invariant-loop-at
invariant-loop-at g l = AreActive (read_at l.tables) l.root (take l.at l.changes)
