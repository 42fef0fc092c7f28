use Rattle.std.proofs.Common.{◌≡◌, ◌<◌, ℕ, [], slice_index_or}
use Rattle.saw_tickets.specs.TicketHistory.{knows, MayBeEmpty}
use Rattle.saw_tickets.specs.Seats.{other_views, other_queues}
use Rattle.saw_tickets.proofs.theft.steal_from.Given as goal

abbrev pub invariant-loop-i : goal.invariant-loop-i
invariant-loop-i g l = record {
  views : other_views l.others ≡ other_views l.initial.others;
  queues : other_queues l.others ≡ other_queues l.initial.others;
  empty : (k : ℕ) → k < l.i → MayBeEmpty (slice_index_or (other_views l.initial.others) k (knows [] []));
}
