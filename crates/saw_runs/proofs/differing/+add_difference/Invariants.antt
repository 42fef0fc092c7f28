use Rattle.std.proofs.Common.{◌+◌, ◌-◌, length, take}
use Rattle.saw_runs.specs.Differing.{FitKids, kids_in, way_part}
use Rattle.saw_runs.specs.Readings.{read_at}
use Rattle.saw_runs.proofs.SideBySide.{Walked}
use Rattle.saw_runs.proofs.differing.+add_difference.Given as goal

abbrev pub decreases-add_difference : goal.decreases-add_difference
decreases-add_difference g l = 35 - l.depth

-- what lies before the kids that are left is done
abbrev pub invariant-loop-byte : goal.invariant-loop-byte
invariant-loop-byte g l = record {
  walked : Walked (read_at l.tables) (35 - (l.depth + 1)) (take l.depth l.at) (way_part l.from) (way_part l.to)
      (kids_in (read_at l.tables) l.left.0) (kids_in (read_at l.tables) l.left.1) l.fn.changes.items l.changes.items;
  fit_first : FitKids l.left.0;
  fit_second : FitKids l.left.1;
}

abbrev pub decreases-loop-byte : goal.decreases-loop-byte
decreases-loop-byte g l = length (kids_in (read_at l.tables) l.left.0) + length (kids_in (read_at l.tables) l.left.1)
