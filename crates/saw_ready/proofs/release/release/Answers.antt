use Rattle.std.proofs.Common.{◌<◌, ◌≤◌, ℕ, List, length, ◌∙◌, length-set, subst, sym}
use Rattle.std.proofs.lemmas.Bool.{iff_false}
use Rattle.std.proofs.lemmas.List.{get_or_read}
use Rattle.saw_ready.specs.Cursors.{IsDue, IsRefreshed}
use Rattle.saw_ready.specs.Edges.{begin, finish}
use Rattle.saw_ready.proofs.Releasing.{flagged-go, half-end, half-go, half-stay}
use Rattle.saw_ready.proofs.release.release.Goals.{else-waits_for, then-waits_for}
use Rattle.saw_ready.proofs.release.release.Goals as goal

pub loop-place-preserved : goal.loop-place-preserved
loop-place-preserved c =
    let preds = c.args.layout.now.preds in
    let succs = c.args.layout.now.succs in
    let marks = c.args.marks.now in
    let place = c.loop-place.place in
    let k = c.target-k.result in
    let j = c.args.j in
    let cursors = c.loop-place.cursors.items in
    let less : place < finish succs j = rw c.finish-place-end.ensures at c.loop-place-test.true in
    let low : begin succs j ≤ place = rw c.begin-place.ensures.value at c.loop-place.auto.place in
    let is_k = sym c.target-k.ensures in
    let inside : k < length marks = rw is_k at (c.requires.layout.both.turned.forth.below j place c.requires.inside (low, less)) in
    elim c.if-waits_for.branch [
      | then-waits_for w ↦
          record {
            points = rw w.cursors-is (length-set cursors k w.met_from.result ∙ c.loop-place.invariant.points);
            long = rw w.ready-is (w.refresh.ensures.long ∙ c.loop-place.invariant.long);
            half =
                rw w.cursors-is
                (half-go preds succs marks c.args.first j place k is_k cursors w.met_from.result
                (rw c.loop-place.invariant.points inside) w.met_from.ensures c.loop-place.invariant.half);
            flagged = rw (w.cursors-is, w.ready-is)
                (flagged-go preds c.args.layout.now.starts.items marks c.args.first cursors k w.met_from.result c.loop-place.ready
                w.refresh.new.ready
                (subst (λ (xs : List ℕ). IsRefreshed (IsDue preds marks xs k) k c.loop-place.ready w.refresh.new.ready)
                w.deref-then-waits_for.ensures.value w.refresh.ensures)
                c.loop-place.invariant.flagged);
          }
      | else-waits_for w ↦
          record {
            points = rw w.cursors-is c.loop-place.invariant.points;
            long = rw w.ready-is c.loop-place.invariant.long;
            half =
                rw w.cursors-is
                (half-stay preds succs marks c.args.first j place k is_k cursors
                (rw c.deref.ensures.value at (iff_false c.waits_for.ensures w.if-waits_for.false)) c.loop-place.invariant.half);
            flagged = rw (w.cursors-is, w.ready-is) c.loop-place.invariant.flagged;
          }
    ]

pub returns-clause-cursors_are : goal.returns-clause-cursors_are
returns-clause-cursors_are c =
    let past : finish c.args.layout.now.succs c.args.j ≤ c.loop-place.place = rw c.finish-place-end.ensures at c.loop-place-test.false in
    half-end c.args.layout.now.preds c.args.layout.now.succs c.args.marks.now c.args.first c.args.j c.loop-place.place
    c.loop-place.cursors.items past c.loop-place.invariant.half

pub met_from-requires-clause-met : goal.met_from-requires-clause-met
met_from-requires-clause-met c = λ p low high.
    let succs = c.args.layout.now.succs in
    let place = c.loop-place.place in
    let k = c.target-k.result in
    let cursors = c.loop-place.cursors.items in
    let less : place < finish succs c.args.j = rw c.finish-place-end.ensures at c.loop-place-test.true in
    let first : begin succs c.args.j ≤ place = rw c.begin-place.ensures.value at c.loop-place.auto.place in
    let is_k = sym c.target-k.ensures in
    let inside : k < length c.args.marks.now =
    rw is_k at (c.requires.layout.both.turned.forth.below c.args.j place c.requires.inside (first, less)) in
    let at = get_or_read cursors k c.index.result.now (rw c.loop-place.invariant.points inside) c.index.ensures 0 in
    (c.loop-place.invariant.half k (c.waits_for.ensures.0 c.if-waits_for.true).0 inside).met p low (rw at at high)
