use Rattle.std.proofs.Common.{inr, rules}
use Rattle.saw_predtree.proofs.Owning.{widest-with, widest-without}
use Rattle.saw_predtree.proofs.own.uncovered.Goals.{else-not-is_under, then-not-is_under+in_ok-push}
use Rattle.saw_predtree.proofs.own.uncovered.Goals as goal

pub loop-prefix-preserved : goal.loop-prefix-preserved
loop-prefix-preserved c = elim c.if-not-is_under.branch [
  | then-not-is_under+in_ok-push w ↦ rw (w.keys-is, w.in_ok-push.ensures.items, c.new-key.ensures, c.as_slice.ensures.bytes)
      (widest-with c.args.prefixes.now c.args.others.now c.loop-prefix.keys.items c.loop-prefix.prefix-index c.prefix-item.result c.loop-prefix-test.true c.prefix-item.is c.loop-prefix.invariant)
  | else-not-is_under w ↦ rw w.keys-is
      (widest-without c.args.prefixes.now c.args.others.now c.loop-prefix.keys.items c.loop-prefix.prefix-index c.prefix-item.result c.loop-prefix-test.true c.prefix-item.is c.loop-prefix.invariant
      (inr (rw (c.new-key.ensures, c.as_slice.ensures.bytes) at (c.is_under.ensures w.if-not-is_under.false))))
]
