use Rattle.std.proofs.Common.{◌+◌, ◌*◌}
use Rattle.saw_messages.proofs.sharing.+shared.Given as goal

abbrev pub decreases-read_batches : goal.decreases-read_batches
decreases-read_batches g l = 2 * l.workers

abbrev pub decreases-join+arg2 : goal.decreases-join+arg2
decreases-join+arg2 g l = 2 * l.near + 1

abbrev pub decreases-join+arg3 : goal.decreases-join+arg3
decreases-join+arg3 g l = 2 * l.far + 1
