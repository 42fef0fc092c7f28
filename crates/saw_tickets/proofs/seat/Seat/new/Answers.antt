use Rattle.saw_tickets.proofs.Moves.{begins}
use Rattle.saw_tickets.proofs.seat.Seat.new.Goals as goal

pub fifo_as-requires : goal.fifo_as-requires
fifo_as-requires c = begins
