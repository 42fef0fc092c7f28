use Rattle.saw_tickets.proofs.Seats.{none_alone}
use Rattle.saw_tickets.proofs.seat.Seat.claim.Goals as goal

pub returns-in-None-clause-alone : goal.returns-in-None-clause-alone
returns-in-None-clause-alone g c = none_alone _ _ _ c.in-None.ensures.rule
