use Rattle.saw_tickets.proofs.Moves.{claimed_once}
use Rattle.saw_tickets.proofs.laws.claimed_once.Goals as goal

pub returns : goal.returns
returns c = claimed_once
