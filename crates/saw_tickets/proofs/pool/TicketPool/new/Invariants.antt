use Rattle.std.proofs.Common.{◌≡◌, vec_len}
use Rattle.saw_tickets.specs.Seats.{IsPool}
use Rattle.saw_tickets.proofs.pool.TicketPool.new.Given as goal

abbrev pub invariant-loop : goal.invariant-loop
invariant-loop l = record { len : vec_len l.made ≡ l.counter; pool : IsPool l.capacity l.made.items }
