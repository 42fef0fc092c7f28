use Rattle.std.proofs.Common.{◌≡◌, ◌≤◌, ◌+◌, ◌++◌, true, length, map, reverse, vec_len, vec_capacity}
use Rattle.std.specs.Prelude.{All}
use Rattle.saw_top.specs.Wrapping.{inner_of}
use Rattle.saw_top.proofs.wrapping.wrap_each.Given as goal

abbrev pub invariant-loop-station : goal.invariant-loop-station
invariant-loop-station g l = record {
  moved : l.fn.stations.items ≡ l.stations.items ++ reverse (map inner_of l.wrapped.items);
  room : vec_len l.stations + vec_len l.wrapped ≤ vec_capacity l.wrapped;
  kept : vec_len l.stations + vec_len l.wrapped ≤ vec_capacity l.stations;
  begun : All (λ station. g.R.Station.begun station ≡ true) l.stations.items;
}

abbrev pub decreases-loop-station : goal.decreases-loop-station
decreases-loop-station g l = length l.stations.items
