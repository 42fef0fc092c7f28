use Rattle.std.proofs.Common.{◌∙◌, ◌++◌, vec_len, ap, sym}
use Rattle.std.proofs.lemmas.Result.{on_ok_weaker}
use Rattle.saw_cbor.specs.View.{view}
use Rattle.saw_cbor.specs.Writing.{written}
use Rattle.saw_cbor.proofs.Puts.{list_put, map_put, items_put, items_all_put, pairs_put, pairs_all_put}
use Rattle.saw_cbor.proofs.Views.{view-List, view-Map, pair_view-key, pair_view-value}
use Rattle.saw_cbor.proofs.writing.+put.Goals as goal

pub put_item-returns-in_ok-put_head-in-List : goal.put_item-returns-in_ok-put_head-in-List
put_item-returns-in_ok-put_head-in-List t c =
    on_ok_weaker c.put_items.result
    (list_put (view c.args.item.now) c.in-List.items.items c.deref.result.now c.len.result
    (vec_len c.in-List.items) c.args.out.now.items c.put_head-in-List.new.out.items c.put_items.new.out.items
    (ap view c.in-List.is ∙ view-List c.in-List.items) c.deref.ensures.value c.deref.ensures.len c.len.ensures c.in_ok-put_head-in-List.ensures)
    c.put_items.ensures

pub put_item-returns-in_ok-put_head-in-Map : goal.put_item-returns-in_ok-put_head-in-Map
put_item-returns-in_ok-put_head-in-Map t c =
    on_ok_weaker c.put_pairs.result
    (map_put (view c.args.item.now) c.in-Map.pairs.items c.deref-in-Map.result.now c.len-in-Map.result
    (vec_len c.in-Map.pairs) c.args.out.now.items c.put_head-in-Map.new.out.items c.put_pairs.new.out.items
    (ap view c.in-Map.is ∙ view-Map c.in-Map.pairs) c.deref-in-Map.ensures.value c.deref-in-Map.ensures.len c.len-in-Map.ensures
    c.in_ok-put_head-in-Map.ensures)
    c.put_pairs.ensures

pub put_items-loop-item-preserved : goal.put_items-loop-item-preserved
put_items-loop-item-preserved t c =
    let l = c.loop-item in
    items_put c.args.items.now l.item-index c.item-item.result l.out.items c.put_item.new.out.items _ c.loop-item-test.true c.item-item.is
    c.in_ok-put_item.ensures l.invariant

pub put_items-returns : goal.put_items-returns
put_items-returns t c =
    let l = c.loop-item in
    items_all_put c.args.items.now l.item-index l.out.items _ c.loop-item-test.false l.invariant

pub put_pairs-loop-pair-preserved : goal.put_pairs-loop-pair-preserved
put_pairs-loop-pair-preserved t c =
    let l = c.loop-pair in
    let p = c.pair-item.result in
    pairs_put c.args.pairs.now l.pair-index p l.out.items c.put_item.new.out.items c.put_item-in-loop-pair.new.out.items _ c.loop-pair-test.true c.pair-item.is
    (c.in_ok-put_item.ensures ∙ ap (λ x. l.out.items ++ written x) (sym (pair_view-key p)))
    (c.in_ok-put_item-2.ensures ∙ ap (λ x. c.put_item.new.out.items ++ written x) (sym (pair_view-value p))) l.invariant

pub put_pairs-returns : goal.put_pairs-returns
put_pairs-returns t c =
    let l = c.loop-pair in
    pairs_all_put c.args.pairs.now l.pair-index l.out.items _ c.loop-pair-test.false l.invariant
