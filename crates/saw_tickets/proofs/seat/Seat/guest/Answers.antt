use Rattle.saw_tickets.proofs.Moves.{forks}
use Rattle.saw_tickets.proofs.seat.Seat.guest.Goals as goal

pub another-pass-requires : goal.another-pass-requires
another-pass-requires c = forks _ _
