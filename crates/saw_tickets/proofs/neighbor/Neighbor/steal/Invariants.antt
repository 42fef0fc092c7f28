use Rattle.std.proofs.Common.{◌≡◌}
use Rattle.crossbeam_deque.specs.Handles.{view, IsPassOf, stealer_deque, stealer_flavor}
use Rattle.saw_tickets.proofs.neighbor.Neighbor.steal.Given as goal

abbrev pub invariant-loop : goal.invariant-loop
invariant-loop g l = record {
  queue : stealer_deque l.self.thief ≡ stealer_deque l.initial.self.thief;
  fits : IsPassOf (stealer_deque l.self.thief) l.self.pass;
  fifo : stealer_flavor l.self.thief ≡ 0;
  same : view l.self.pass ≡ view l.initial.self.pass;
}
