use Rattle.saw_tickets.proofs.Moves.{claimed_is_issued}
use Rattle.saw_tickets.proofs.laws.claimed_is_issued.Goals as goal

pub returns : goal.returns
returns c = claimed_is_issued
