use Rattle.std.proofs.Common.{sym, ◌∙◌}
use Rattle.std.proofs.lemmas.Map.Iter.{rest_more}
use Rattle.std.specs.Map.Iter.{deref_pair}
use Rattle.saw_predtree.proofs.Walks.{way-begins, way-goes, way-stops}
use Rattle.saw_predtree.proofs.search.gather_below.Goals as goal

pub loop-at-init : goal.loop-at-init
loop-at-init c =
    rw c.into_iter-at-iterator.ensures.into_iter_gives
    (way-begins c.args.usage c.args.places.now c.args.key.now c.args.found.now.items c.range-at-items.result
    (rw c.copy.ensures at (c.range-at-items.ensures.between tt)) (rw c.copy.ensures at (c.range-at-items.ensures.in_range tt)) c.range-at-items.ensures.ordered)

pub returns-then-not-covers : goal.returns-then-not-covers
returns-then-not-covers c =
    let way = rw (rest_more deref_pair c.loop-at.at-iterator c.next.new.self c.next.result (c.in-Some.at, c.in-Some.place) c.in-Some.is c.next.ensures.steps) at c.loop-at.invariant in
    way-stops c.args.usage c.args.places.now c.args.key.now c.args.found.now.items c.loop-at.found.items (c.in-Some.at.now, c.in-Some.place.now) c.next.new.self way
    (sym c.covers.ensures ∙ c.if-not-covers.true)

pub loop-at-preserved : goal.loop-at-preserved
loop-at-preserved c =
    let way = rw (rest_more deref_pair c.loop-at.at-iterator c.next.new.self c.next.result (c.in-Some.at, c.in-Some.place) c.in-Some.is c.next.ensures.steps) at c.loop-at.invariant in
    way-goes c.args.usage c.args.places.now c.args.key.now c.args.found.now.items c.loop-at.found.items (c.in-Some.at.now, c.in-Some.place.now) c.next.new.self way
    c.gather.new.found.items (sym c.covers.ensures ∙ c.if-not-covers.false) c.in_ok-gather.ensures
