use Rattle.saw_tickets.proofs.Moves.{claimed_alone}
use Rattle.saw_tickets.proofs.seat.Seat.claim_own.Goals as goal

pub returns-in-None-clause-alone : goal.returns-in-None-clause-alone
returns-in-None-clause-alone c = claimed_alone _ c.in-None.ensures.rule.1
