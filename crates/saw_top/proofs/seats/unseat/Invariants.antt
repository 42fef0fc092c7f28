use Rattle.std.proofs.Common.{◌≡◌, ◌≤◌, ◌+◌, ◌++◌, true, length, reverse, vec_len, vec_capacity}
use Rattle.std.specs.Prelude.{All}
use Rattle.saw_top.specs.Seats.{remotes_at}
use Rattle.saw_top.proofs.seats.unseat.Given as goal

abbrev pub invariant-loop-desk : goal.invariant-loop-desk
invariant-loop-desk g l = record {
  moved : l.remotes.items ++ reverse (remotes_at l.desks.items) ≡ l.fn.remotes.items ++ reverse (remotes_at l.fn.desks.items);
  begun : All (λ remote. g.R.Station.begun remote ≡ true) l.fn.remotes.items → All (λ remote. g.R.Station.begun remote ≡ true) l.remotes.items;
  room : vec_len l.remotes + length (remotes_at l.desks.items) ≤ vec_capacity l.remotes;
}

abbrev pub decreases-loop-desk : goal.decreases-loop-desk
decreases-loop-desk g l = goal.left-loop-desk g l
