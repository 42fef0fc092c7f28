use Rattle.std.proofs.Common.{sym, ◌∙◌, arith}
use Rattle.std.specs.Arc.{arc_value}
use Rattle.saw_plan.specs.BatchShapes.{shapes_of}
use Rattle.saw_plan.proofs.Pairs.{not-this, one-more, shape-at}
use Rattle.saw_plan.proofs.precedence.predecessors_among.Goals.{then-comes_before+in_ok-push, else-comes_before}
use Rattle.saw_plan.proofs.precedence.predecessors_among.Goals as goal

pub loop-j-preserved : goal.loop-j-preserved
loop-j-preserved c =
    let txs = c.args.txs.now in
    let at_j = shape-at txs c.loop-j.j c.index-txs-j.result (omega (arith, c.loop-j-test.true, c.requires.inside)) c.index-txs-j.is in
    let at_i = shape-at txs c.args.index c.index-txs-index.result c.requires.inside c.index-txs-index.is in
    elim c.if-comes_before.branch [
      | then-comes_before+in_ok-push w ↦
          rw (w.found-is, w.in_ok-push.ensures.items)
          (one-more (shapes_of txs) c.args.index c.loop-j.j (arc_value c.index-txs-j.result) (arc_value c.index-txs-index.result) at_j at_i _ c.loop-j.invariant
          (rw (← c.deref.ensures, ← c.deref-in-loop-j.ensures) (sym c.comes_before.ensures ∙ w.if-comes_before.true)))
      | else-comes_before w ↦
          rw w.found-is
          (not-this (shapes_of txs) c.args.index c.loop-j.j (arc_value c.index-txs-j.result) (arc_value c.index-txs-index.result) at_j at_i _ c.loop-j.invariant
          (rw (← c.deref.ensures, ← c.deref-in-loop-j.ensures) (sym c.comes_before.ensures ∙ w.if-comes_before.false)))
    ]
