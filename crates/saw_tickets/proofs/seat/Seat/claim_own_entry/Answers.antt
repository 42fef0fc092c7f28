use Rattle.saw_tickets.proofs.Moves.{takes}
use Rattle.saw_tickets.proofs.seat.Seat.claim_own_entry.Goals as goal

pub pop_as-requires-clause-fifo : goal.pop_as-requires-clause-fifo
pop_as-requires-clause-fifo c _ = takes _ _
