use Rattle.std.proofs.Common.{◌≡◌, ◌≤◌, length, map, drop}
use Rattle.saw_checks.specs.Tests.{first_difference}
use Rattle.saw_checks.proofs.Differences.{after}
use Rattle.saw_checks.proofs.ids.first_difference.Given as goal

abbrev pub invariant-loop-index : goal.invariant-loop-index
invariant-loop-index g l = record {
  within : l.index ≤ length l.listed;
  so_far : first_difference l.listed (map g.T.Named.id_of l.found) ≡ after l.index
      (first_difference (drop l.index l.listed) (map g.T.Named.id_of (drop l.index l.found)));
}
