use Rattle.std.proofs.Common.{◌≡◌, ◌≤◌, ◌+◌, ◌++◌, true, List, map, reverse, vec_len, vec_capacity}
use Rattle.std.specs.List.{AllByRecursion}
use Rattle.std.specs.Prelude.{All}
use Rattle.saw_identity.specs.Stations.{Wrapped}
use Rattle.saw_top.specs.Wrapping.{ServesIdentity, inner_of}
use Rattle.saw_top.proofs.wrapping.unwrap_each.Given as goal

abbrev pub invariant-loop-one : goal.invariant-loop-one
invariant-loop-one g l = record {
  moved : l.stations.items ++ reverse (map inner_of l.wrapped.items) ≡ l.fn.stations.items ++ reverse (map inner_of l.fn.wrapped.items);
  begun : All (λ station. g.R.Station.begun station ≡ true) l.fn.stations.items → All (λ station. g.R.Station.begun station ≡ true) l.stations.items;
  room : vec_len l.stations + vec_len l.wrapped ≤ vec_capacity l.stations;
  done : (rest : List (Wrapped g.row.R.Denot)) × (l.fn.wrapped.items ≡ l.wrapped.items ++ rest)
      × AllByRecursion (ServesIdentity g.R.Station.offered) rest;
}

abbrev pub decreases-loop-one : goal.decreases-loop-one
decreases-loop-one g l = goal.left-loop-one g l
