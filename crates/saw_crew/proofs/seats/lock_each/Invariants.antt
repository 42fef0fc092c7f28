use Rattle.std.proofs.Common.{◌≡◌, ◌+◌, vec_len}
use Rattle.saw_crew.proofs.seats.lock_each.Given as goal

abbrev pub invariant-loop-seat : goal.invariant-loop-seat
invariant-loop-seat l = vec_len l.seats + l.seat-iterator.rest.len ≡ vec_len l.fn.pool
