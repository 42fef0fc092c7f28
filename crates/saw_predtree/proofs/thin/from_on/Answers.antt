use Rattle.std.proofs.Common.{get_or, refl}
use Rattle.saw_predtree.proofs.Thinning.{from-begins, from-ends, from-passes, from-takes}
use Rattle.saw_predtree.proofs.thin.from_on.Goals.{else-number-low, then-number-low+in_ok-push}
use Rattle.saw_predtree.proofs.thin.from_on.Goals as goal

pub loop-number-init : goal.loop-number-init
loop-number-init c = rw c.new-given.ensures.items (from-begins c.args.sorted.now c.args.from)

pub loop-number-preserved : goal.loop-number-preserved
loop-number-preserved c = elim c.if-number-low.branch [
  | then-number-low+in_ok-push w ↦ rw (w.given-is, w.low-is, w.in_ok-push.ensures.items)
      (from-takes c.args.sorted.now c.args.from c.loop-number.number-index c.loop-number.given.items c.loop-number.low (get_or c.args.sorted.now c.loop-number.number-index 0)
      c.loop-number.invariant c.requires c.loop-number-test.true refl w.if-number-low.true)
  | else-number-low w ↦ rw (w.given-is, w.low-is)
      (from-passes c.args.sorted.now c.args.from c.loop-number.number-index c.loop-number.given.items c.loop-number.low (get_or c.args.sorted.now c.loop-number.number-index 0)
      c.loop-number.invariant c.requires c.loop-number-test.true refl w.if-number-low.false)
]

pub returns : goal.returns
returns c = from-ends c.args.sorted.now c.args.from c.loop-number.number-index c.loop-number.given.items c.loop-number.low c.loop-number.invariant c.loop-number-test.false
