use Rattle.std.proofs.Common.{◌+◌, ◌*◌}
use Rattle.saw_crew.proofs.lanes.+shared.Given as goal

abbrev pub decreases-run_lanes : goal.decreases-run_lanes
decreases-run_lanes g l = 2 * l.count

abbrev pub decreases-join+arg2 : goal.decreases-join+arg2
decreases-join+arg2 g l = 2 * l.near + 1

abbrev pub decreases-join+arg3 : goal.decreases-join+arg3
decreases-join+arg3 g l = 2 * l.far + 1
