use Rattle.std.proofs.Common.{◌≡◌, ◌<◌, ◌≤◌, ℕ, length, get_or, sum, take}
use Rattle.saw_ready.proofs.successors.add_up.Given as goal

abbrev pub invariant-loop-j : goal.invariant-loop-j
invariant-loop-j l = record {
  next_long : length l.next.items ≡ length l.fn.next.items;
  from_long : length l.from.items ≡ length l.fn.from.items;
  all : l.all ≡ sum (take l.j l.fn.next.items);
  next : (i : ℕ) → i < l.j → get_or l.next.items i 0 ≡ sum (take i l.fn.next.items);
  later : (i : ℕ) → l.j ≤ i → get_or l.next.items i 0 ≡ get_or l.fn.next.items i 0;
  from : (i : ℕ) → i ≤ l.j → get_or l.from.items i 0 ≡ sum (take i l.fn.next.items);
}
