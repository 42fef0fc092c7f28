use Rattle.std.proofs.Common.{◌≡◌, ◌≤◌, ◌<◌, ℕ, true, length}
use Rattle.std.specs.Prelude.{slice_index_or}
use Rattle.saw_top.proofs.seats.begin_each.Given as goal

abbrev pub invariant-loop-place : goal.invariant-loop-place
invariant-loop-place g l = record {
  count : length l.remotes ≡ length l.fn.remotes;
  begun : (k : ℕ) (d : _) → k < l.place → g.R.Station.begun (slice_index_or l.remotes k d) ≡ true;
  rest : (k : ℕ) (d : _) → l.place ≤ k → slice_index_or l.remotes k d ≡ slice_index_or l.fn.remotes k d;
  later : (k : ℕ) (d : _) → k < length l.fn.remotes
      → g.R.Station.faults (slice_index_or l.fn.remotes k d) ≤ g.R.Station.faults (slice_index_or l.remotes k d);
}
