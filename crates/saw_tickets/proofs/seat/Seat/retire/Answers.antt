use Rattle.saw_tickets.proofs.Moves.{merges}
use Rattle.saw_tickets.proofs.seat.Seat.retire.Goals as goal

pub absorb-requires-clause-rule : goal.absorb-requires-clause-rule
absorb-requires-clause-rule c = rw c.args.self.now.owner (merges _ _ _)
