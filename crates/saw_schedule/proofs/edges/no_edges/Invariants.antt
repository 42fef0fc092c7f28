use Rattle.std.proofs.Common.{[]}
use Rattle.saw_schedule.proofs.Rows.{AreRows}
use Rattle.saw_schedule.proofs.edges.no_edges.Given as goal

abbrev pub invariant-loop : goal.invariant-loop
invariant-loop l = AreRows l.from.items [] l.counter (λ i. [])
