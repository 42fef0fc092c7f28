-- The guests that are left, and the readers that were moved back.
use Rattle.std.proofs.Common.{◌≡◌, ◌≤◌, ◌+◌, ◌++◌, true, List, map, reverse, vec_len, vec_capacity}
use Rattle.std.specs.List.{AllByRecursion}
use Rattle.std.specs.Prelude.{All}
use Rattle.saw_live.specs.Cells.{leads_to, own_cell}
use Rattle.saw_live.specs.Heads.{StartsWith}
use Rattle.saw_live.specs.Passes.{history, publishes}
use Rattle.saw_top.proofs.readers.dismiss_each.Given as goal

abbrev pub invariant-loop-guest : goal.invariant-loop-guest
invariant-loop-guest g l = record {
  moved : l.readers.items ++ reverse (map (λ guest. guest.reader) l.guests.items) ≡ reverse (map (λ guest. guest.reader) l.fn.guests.items);
  room : vec_len l.readers + vec_len l.guests ≤ vec_capacity l.readers;
  cell : leads_to l.first ≡ own_cell l.live;
  first : publishes l.first ≡ true;
  same : history l.first ≡ history l.fn.first;
  cells : All (λ guest. leads_to guest.pass ≡ own_cell l.live) l.guests.items;
  done : (rest : List _) × (l.fn.guests.items ≡ l.guests.items ++ rest)
      × AllByRecursion (λ guest. StartsWith (history l.fn.first) (history guest.pass)) rest;
}

abbrev pub decreases-loop-guest : goal.decreases-loop-guest
decreases-loop-guest g l = goal.left-loop-guest g l
