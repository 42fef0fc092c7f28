-- The readers and passes that are left, and the guests.
use Rattle.std.proofs.Common.{◌≡◌, ◌≤◌, ◌+◌, ◌++◌, length, map, reverse, vec_len, vec_capacity}
use Rattle.saw_top.proofs.readers.welcome_each.Given as goal

abbrev pub invariant-loop-pass : goal.invariant-loop-pass
invariant-loop-pass g l = record {
  moved : l.fn.readers.items ≡ l.readers.items ++ reverse (map (λ guest. guest.reader) l.guests.items);
  passed : l.fn.passes.items ≡ l.passes.items ++ reverse (map (λ guest. guest.pass) l.guests.items);
  many : length l.passes.items ≡ length l.readers.items;
  room : length l.passes.items + length l.guests.items ≤ vec_capacity l.guests;
  kept : vec_len l.readers + vec_len l.guests ≤ vec_capacity l.readers;
}

abbrev pub decreases-loop-pass : goal.decreases-loop-pass
decreases-loop-pass g l = goal.left-loop-pass g l
