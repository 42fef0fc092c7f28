use Rattle.std.proofs.Common.{length, arith}
use Rattle.saw_ready.specs.Edges.{IsAt}
use Rattle.saw_ready.proofs.Turning.{filled-put, room}
use Rattle.saw_ready.proofs.successors.fill_row.Goals as goal

pub index_mut-requires : goal.index_mut-requires
index_mut-requires c =
    let l = c.loop-place in
    let at : IsAt c.args.preds.now c.args.k l.place =
    (rw c.begin-place.ensures.value at l.auto.place, rw c.finish-place-end.ensures at c.loop-place-test.true) in
    let fits =
    room c.args.preds.now
    (length c.args.next.now.items) c.args.k l.place c.target-j.result c.index-at.result.now l.next.items l.to.items
    c.requires.edges c.requires.inside at c.target-j.ensures c.index-at.ensures l.invariant in
    omega (arith, fits)

pub overflow_add-at : goal.overflow_add-at
overflow_add-at c =
    let l = c.loop-place in
    let at : IsAt c.args.preds.now c.args.k l.place =
    (rw c.begin-place.ensures.value at l.auto.place, rw c.finish-place-end.ensures at c.loop-place-test.true) in
    let fits =
    room c.args.preds.now
    (length c.args.next.now.items) c.args.k l.place c.target-j.result c.index-at.result.now l.next.items l.to.items
    c.requires.edges c.requires.inside at c.target-j.ensures c.index-at.ensures l.invariant in
    omega (arith, fits)

pub loop-place-preserved : goal.loop-place-preserved
loop-place-preserved c =
    let l = c.loop-place in
    let at : IsAt c.args.preds.now c.args.k l.place =
    (rw c.begin-place.ensures.value at l.auto.place, rw c.finish-place-end.ensures at c.loop-place-test.true) in
    filled-put c.args.preds.now
    (length c.args.next.now.items) c.args.k l.place c.target-j.result c.index-at.result.now l.next.items l.to.items c.requires.edges
    c.requires.inside at c.target-j.ensures c.index-at.ensures l.invariant
