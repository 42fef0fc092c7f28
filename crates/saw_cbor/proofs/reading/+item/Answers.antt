use Rattle.std.proofs.Common.{◌≡◌, ◌≢◌, ◌+◌, ◌-◌, ◌/◌, ◌∙◌, ◌++◌, ◌∷◌, [], map, Ok, inr, ap, sym, arith}
use Rattle.std.proofs.lemmas.List.{map_push}
use Rattle.std.proofs.lemmas.Result.{err_from_is_err_and}
use Rattle.saw_cbor.specs.Data.{list, pairs}
use Rattle.saw_cbor.specs.Reading.{◌>>=◌}
use Rattle.saw_cbor.specs.View.{view, pair_view, head_view}
use Rattle.saw_cbor.proofs.Loops.{items_go_on, items_stop, items_done, pairs_go_on, pairs_stop, pairs_stop_later, pairs_done}
use Rattle.saw_cbor.proofs.Steps.{item_deep, item_no_head, item_list, item_pairs, item_leaf, stops}
use Rattle.saw_cbor.proofs.Views.{view-List, view-Map, push_pair}
use Rattle.saw_cbor.proofs.reading.+item.Goals as goal

pub read_item-returns-then-inside-from-clause-gives : goal.read_item-returns-then-inside-from-clause-gives
read_item-returns-then-inside-from-clause-gives t c fuel enough =
    inr (item_deep fuel (fuel - 1) c.args.depth c.args.inside c.args.p c.args.bytes.now (omega arith) (omega arith))

pub read_item-returns-in_err-head-clause-gives : goal.read_item-returns-in_err-head-clause-gives
read_item-returns-in_err-head-clause-gives t c =
    let p = err_from_is_err_and c.from_residual.result c.from_residual.ensures.1 in
    rw (p.1, p.2) (λ fuel enough. inr (item_no_head fuel (fuel - 1) c.args.depth c.args.inside c.args.p c.args.bytes.now c.in_err-head.field-0.0
    (omega arith) (omega arith) c.in_err-head.ensures.gives))

pub read_item-returns-in_err-items-in-4-clause-gives : goal.read_item-returns-in_err-items-in-4-clause-gives
read_item-returns-in_err-items-in-4-clause-gives t c =
    let p = err_from_is_err_and c.from_residual-in_err-items-in-4.result c.from_residual-in_err-items-in-4.ensures.1 in
    let h = c.in_ok-head in
    rw (p.1, p.2) (λ fuel enough. stops c.in_err-items-in-4.field-0.0 _ _ _
    (item_list fuel (fuel - 1) c.args.depth c.args.inside c.args.p c.args.bytes.now (head_view h.head) (omega arith) (omega arith) h.ensures.gives c.in-4.is)
    (c.in_err-items-in-4.ensures.gives (fuel - 1) (omega (arith, h.ensures.within))))

pub read_item-returns-in_err-pairs-in-5-clause-gives : goal.read_item-returns-in_err-pairs-in-5-clause-gives
read_item-returns-in_err-pairs-in-5-clause-gives t c =
    let p = err_from_is_err_and c.from_residual-in_err-pairs-in-5.result c.from_residual-in_err-pairs-in-5.ensures.1 in
    let h = c.in_ok-head in
    rw (p.1, p.2) (λ fuel enough. stops c.in_err-pairs-in-5.field-0.0 _ _ _
    (item_pairs fuel (fuel - 1) c.args.depth c.args.inside c.args.p c.args.bytes.now (head_view h.head) (omega arith) (omega arith) h.ensures.gives c.in-5.is)
    (c.in_err-pairs-in-5.ensures.gives (fuel - 1) (omega (arith, h.ensures.within))))

pub read_item-returns-in_ok-items-in-4-clause-gives : goal.read_item-returns-in_ok-items-in-4-clause-gives
read_item-returns-in_ok-items-in-4-clause-gives t c fuel enough =
    let h = c.in_ok-head in
    let found = c.in_ok-items-in-4 in
    item_list fuel (fuel - 1) c.args.depth c.args.inside c.args.p c.args.bytes.now (head_view h.head) (omega arith) (omega arith) h.ensures.gives c.in-4.is
    ∙ ap (λ r. r >>= λ found. Ok (list found.0, found.1)) (found.ensures.gives (fuel - 1) (omega (arith, h.ensures.within)))
    ∙ ap (λ v. Ok (v, found.end)) (sym (view-List found.items))

pub read_item-returns-in_ok-pairs-in-5-clause-gives : goal.read_item-returns-in_ok-pairs-in-5-clause-gives
read_item-returns-in_ok-pairs-in-5-clause-gives t c fuel enough =
    let h = c.in_ok-head in
    let found = c.in_ok-pairs-in-5 in
    item_pairs fuel (fuel - 1) c.args.depth c.args.inside c.args.p c.args.bytes.now (head_view h.head) (omega arith) (omega arith) h.ensures.gives c.in-5.is
    ∙ ap (λ r. r >>= λ found. Ok (pairs found.0, found.1)) (found.ensures.gives (fuel - 1) (omega (arith, h.ensures.within)))
    ∙ ap (λ v. Ok (v, found.end)) (sym (view-Map found.pairs))

pub read_item-returns-in_default-clause-gives : goal.read_item-returns-in_default-clause-gives
read_item-returns-in_default-clause-gives t c fuel enough =
    let h = c.in_ok-head in
    let four : h.head.first / 32 ≢ 4 = omega arith in
    let five : h.head.first / 32 ≢ 5 = omega arith in
    rw (item_leaf fuel (fuel - 1) c.args.depth c.args.inside c.args.p c.args.bytes.now (head_view h.head) (omega arith)
    (omega arith) h.ensures.gives four five) c.leaf.ensures.gives

pub read_items-returns-in_err-item-clause-gives : goal.read_items-returns-in_err-item-clause-gives
read_items-returns-in_err-item-clause-gives t c =
    let p = err_from_is_err_and c.from_residual.result c.from_residual.ensures.1 in
    let l = c.items in
    let i = l.invariant in
    rw (p.1, p.2) (λ fuel enough.
    let m = fuel - l.counter - 1 in
    let k = c.args.count - l.counter - 1 in
    items_stop c.in_err-item.field-0.0 (map view l.found.items) (fuel - l.counter) m
    (c.args.count - l.counter) k c.args.depth c.args.inside l.next c.args.bytes.now _ (omega arith) (omega arith)
    (c.in_err-item.ensures.gives m (omega (arith, i.forth, i.within))) (i.so_far fuel enough))

pub read_items-items-preserved : goal.read_items-items-preserved
read_items-items-preserved t c =
    let l = c.items in
    let i = l.invariant in
    let one = c.in_ok-item in
    let pushed : c.push.new.self.items ≡ l.found.items ++ one.item ∷ [] = c.in_ok-push.ensures.items in
    let shown : map view c.push.new.self.items ≡ map view l.found.items ++ view one.item ∷ [] = rw pushed (map_push view l.found.items one.item) in
    record {
      forth = omega (arith, one.ensures.within, i.forth);
      within = one.ensures.within.1;
      so_far = λ fuel enough.
          let m = fuel - (l.counter + 1) in
          let k = c.args.count - (l.counter + 1) in
          rw shown (items_go_on (map view l.found.items) (fuel - l.counter) m
          (c.args.count - l.counter) k c.args.depth c.args.inside l.next c.args.bytes.now (view one.item) one.end _ (omega (arith, i.forth)) (omega arith)
          (one.ensures.gives m (omega (arith, i.forth, i.within))) (i.so_far fuel enough));
    }

pub read_items-returns-clause-gives : goal.read_items-returns-clause-gives
read_items-returns-clause-gives t c fuel enough =
    let l = c.items in
    items_done (map view l.found.items) (fuel - l.counter) (c.args.count - l.counter) c.args.depth c.args.inside l.next c.args.bytes.now _
    (omega arith) (l.invariant.so_far fuel enough)

pub read_pairs-returns-in_err-key-clause-gives : goal.read_pairs-returns-in_err-key-clause-gives
read_pairs-returns-in_err-key-clause-gives t c =
    let p = err_from_is_err_and c.from_residual.result c.from_residual.ensures.1 in
    let l = c.pairs in
    let i = l.invariant in
    rw (p.1, p.2) (λ fuel enough.
    let m = fuel - l.counter - 1 in
    let k = c.args.count - l.counter - 1 in
    pairs_stop c.in_err-key.field-0.0 (map pair_view l.found.items) (fuel - l.counter) m
    (c.args.count - l.counter) k c.args.depth c.args.inside l.next c.args.bytes.now _ (omega arith) (omega arith)
    (c.in_err-key.ensures.gives m (omega (arith, i.forth, i.within))) (i.so_far fuel enough))

pub read_pairs-returns-in_err-value-clause-gives : goal.read_pairs-returns-in_err-value-clause-gives
read_pairs-returns-in_err-value-clause-gives t c =
    let p = err_from_is_err_and c.from_residual-in_err-value.result c.from_residual-in_err-value.ensures.1 in
    let l = c.pairs in
    let i = l.invariant in
    let key = c.in_ok-key in
    rw (p.1, p.2) (λ fuel enough.
    let m = fuel - l.counter - 1 in
    let k = c.args.count - l.counter - 1 in
    pairs_stop_later c.in_err-value.field-0.0 (map pair_view l.found.items) (fuel - l.counter) m
    (c.args.count - l.counter) k c.args.depth c.args.inside l.next c.args.bytes.now (view key.key) key.middle _ (omega arith) (omega arith)
    (key.ensures.gives m (omega (arith, i.forth, i.within))) (c.in_err-value.ensures.gives m (omega (arith, i.forth, key.ensures.within)))
    (i.so_far fuel enough))

pub read_pairs-pairs-preserved : goal.read_pairs-pairs-preserved
read_pairs-pairs-preserved t c =
    let l = c.pairs in
    let i = l.invariant in
    let key = c.in_ok-key in
    let value = c.in_ok-value in
    let shown = ap (map pair_view) c.in_ok-push.ensures.items ∙ push_pair l.found.items key.key value.value in
    record {
      forth = omega (arith, key.ensures.within, value.ensures.within, i.forth);
      within = value.ensures.within.1;
      so_far = λ fuel enough.
          let m = fuel - (l.counter + 1) in
          let k = c.args.count - (l.counter + 1) in
          rw shown (pairs_go_on (map pair_view l.found.items) (fuel - l.counter) m
          (c.args.count - l.counter) k c.args.depth c.args.inside l.next c.args.bytes.now (view key.key) key.middle (view value.value) value.end _
          (omega (arith, i.forth)) (omega arith) (key.ensures.gives m (omega (arith, i.forth, i.within)))
          (value.ensures.gives m (omega (arith, i.forth, key.ensures.within))) (i.so_far fuel enough));
    }

pub read_pairs-returns-clause-gives : goal.read_pairs-returns-clause-gives
read_pairs-returns-clause-gives t c fuel enough =
    let l = c.pairs in
    pairs_done (map pair_view l.found.items) (fuel - l.counter) (c.args.count - l.counter) c.args.depth c.args.inside l.next c.args.bytes.now _
    (omega arith) (l.invariant.so_far fuel enough)
