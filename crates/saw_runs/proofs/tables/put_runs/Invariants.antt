use Rattle.std.proofs.Common.{◌≡◌, ◌≤◌, ℕ, List, length}
use Rattle.std.specs.HashMap.{spare}
use Rattle.std.specs.Map.{lookup}
use Rattle.std.specs.Str.{bytes_eq}
use Rattle.saw_runs.specs.Apart.{found_after}
use Rattle.saw_runs.proofs.tables.put_runs.Given as goal

-- there is room for what is left, and with it all are put
abbrev pub invariant-loop-pair : goal.invariant-loop-pair
invariant-loop-pair l = record {
  room : length l.pair-iterator.rest.items ≤ spare l.table;
  so_far : (h : List ℕ) → found_after (lookup (bytes_eq h) l.table.entries) l.pair-iterator.rest.items h
      ≡ found_after (lookup (bytes_eq h) l.initial.table.entries) l.fn.runs.items h;
}
