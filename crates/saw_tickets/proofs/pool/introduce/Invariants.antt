use Rattle.std.proofs.Common.{◌≡◌, ◌<◌, ◌≤◌, ◌++◌, ℕ, take, get_or}
use Rattle.crossbeam_deque.specs.Handles.{worker_deque}
use Rattle.saw_tickets.specs.declared.seat.Seat.{Seat}
use Rattle.saw_tickets.specs.Seats.{views_of, queues_of, after_meeting, capacity_of, deques, Meets}
use Rattle.saw_tickets.proofs.pool.introduce.Given as goal

abbrev pub invariant-loop-i : goal.invariant-loop-i
invariant-loop-i l = record {
  met : (i : ℕ) (d : Seat) → i < l.i → Meets (worker_deque l.initial.new.own) (get_or l.initial.seats i d) (get_or l.seats i d);
  rest : (i : ℕ) (d : Seat) → l.i ≤ i → get_or l.seats i d ≡ get_or l.initial.seats i d;
  queues : queues_of l.new ≡ queues_of l.initial.new ++ deques (take l.i l.initial.seats);
  views : views_of l.new ≡ after_meeting (take l.i l.initial.seats) (views_of l.initial.new);
  capacity : capacity_of l.new ≡ capacity_of l.initial.new;
}
