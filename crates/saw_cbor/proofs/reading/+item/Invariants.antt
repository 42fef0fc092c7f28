use Rattle.std.proofs.Common.{◌≡◌, ◌+◌, ◌-◌, ◌*◌, ◌≤◌, ℕ, length, map}
use Rattle.saw_cbor.specs.Reading.{items_at, pairs_at}
use Rattle.saw_cbor.specs.View.{view, pair_view}
use Rattle.saw_cbor.proofs.Loops.{items_before, pairs_before}
use Rattle.saw_cbor.proofs.reading.+item.Given as goal

abbrev pub decreases-read_item : goal.decreases-read_item
decreases-read_item l = 2 * (length l.bytes.now - l.p) + 1

abbrev pub decreases-read_items : goal.decreases-read_items
decreases-read_items l = 2 * (length l.bytes.now - l.p) + 2

abbrev pub decreases-read_pairs : goal.decreases-read_pairs
decreases-read_pairs l = 2 * (length l.bytes.now - l.p) + 2

abbrev pub invariant-read_items-items : goal.invariant-read_items-items
invariant-read_items-items l = record {
  forth : l.fn.p + l.counter ≤ l.next;
  within : l.next ≤ length l.bytes;
  so_far : (fuel : ℕ) → 2 * (length l.bytes - l.fn.p) + 2 ≤ fuel
      → items_before (map view l.found.items) (items_at (fuel - l.counter) (l.count - l.counter) l.depth l.inside l.next l.bytes)
      ≡ items_at fuel l.count l.depth l.inside l.fn.p l.bytes;
}

abbrev pub invariant-read_pairs-pairs : goal.invariant-read_pairs-pairs
invariant-read_pairs-pairs l = record {
  forth : l.fn.p + l.counter ≤ l.next;
  within : l.next ≤ length l.bytes;
  so_far : (fuel : ℕ) → 2 * (length l.bytes - l.fn.p) + 2 ≤ fuel
      → pairs_before (map pair_view l.found.items) (pairs_at (fuel - l.counter) (l.count - l.counter) l.depth l.inside l.next l.bytes)
      ≡ pairs_at fuel l.count l.depth l.inside l.fn.p l.bytes;
}
