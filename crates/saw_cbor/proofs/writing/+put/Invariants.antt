use Rattle.std.proofs.Common.{◌≡◌, ◌++◌, drop}
use Rattle.saw_cbor.specs.View.{items_view, pairs_view}
use Rattle.saw_cbor.specs.Writing.{items_written, pairs_written}
use Rattle.saw_cbor.proofs.writing.+put.Given as goal

abbrev pub invariant-put_items-loop-item : goal.invariant-put_items-loop-item
invariant-put_items-loop-item l = l.out.items ++ items_written (items_view (drop l.item-index l.items)) ≡ l.fn.out.items ++ items_written (items_view l.items)

abbrev pub invariant-put_pairs-loop-pair : goal.invariant-put_pairs-loop-pair
invariant-put_pairs-loop-pair l = l.out.items ++ pairs_written (pairs_view (drop l.pair-index l.pairs)) ≡ l.fn.out.items ++ pairs_written (pairs_view l.pairs)
