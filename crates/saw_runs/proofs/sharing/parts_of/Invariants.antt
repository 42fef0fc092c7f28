use Rattle.std.proofs.Common.{◌≤◌, ◌-◌, length}
use Rattle.std.specs.List.{AllByRecursion}
use Rattle.saw_runs.specs.Places.{IsEdge}
use Rattle.saw_runs.specs.Parts.{Follow, IsPart}
use Rattle.saw_runs.specs.Readings.{read_at}
use Rattle.saw_runs.proofs.sharing.parts_of.Given as goal

-- the parts are the groups so far
abbrev pub invariant-loop-at : goal.invariant-loop-at
invariant-loop-at g l = record {
  each : AllByRecursion (IsPart (read_at l.tables) l.depth l.kids l.changes) l.parts.items;
  follow : Follow 0 l.parts.items l.at;
  edge : IsEdge l.depth l.changes l.at;
  within : l.at ≤ length l.changes;
}

abbrev pub decreases-loop-at : goal.decreases-loop-at
decreases-loop-at g l = length l.changes - l.at
