use Rattle.saw_tickets.proofs.Moves.{takes}
use Rattle.saw_tickets.proofs.neighbor.Neighbor.steal.Goals as goal

pub steal_as-requires-clause-takes : goal.steal_as-requires-clause-takes
steal_as-requires-clause-takes g c = takes _ _
