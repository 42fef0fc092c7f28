use Rattle.saw_tickets.proofs.Moves.{pushed_job}
use Rattle.saw_tickets.proofs.seat.Seat.issue.Goals as goal

pub push_as-requires-clause-pushes : goal.push_as-requires-clause-pushes
push_as-requires-clause-pushes c = rw c.args.self.now.owner (pushed_job _ _ _ c.args.self.now.counted)
