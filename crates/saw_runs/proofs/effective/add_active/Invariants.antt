use Rattle.std.proofs.Common.{◌++◌, drop}
use Rattle.saw_runs.specs.Idle.{AreActive, StandsFor}
use Rattle.saw_runs.specs.Readings.{read_at}
use Rattle.saw_runs.proofs.effective.add_active.Given as goal

-- what is left so far stands with the rest for the whole
abbrev pub invariant-loop-change : goal.invariant-loop-change
invariant-loop-change g l = record {
  stands : StandsFor (read_at l.tables) l.root (l.left.items ++ drop l.change-index l.changes) (l.fn.left.items ++ l.changes);
  active : AreActive (read_at l.tables) l.root l.left.items;
}
