use Rattle.std.proofs.Common.{◌⊎◌, List, ℕ, subst}
use Rattle.saw_predtree.specs.Searches.{IsCovered}
use Rattle.saw_predtree.proofs.Owning.{widest-with, widest-without}
use Rattle.saw_predtree.proofs.own.keep_widest.Goals.{else-not-is_covered, then-not-is_covered+in_ok-push}
use Rattle.saw_predtree.proofs.own.keep_widest.Goals as goal

pub loop-key-preserved : goal.loop-key-preserved
loop-key-preserved c = elim c.if-not-is_covered.branch [
  | then-not-is_covered+in_ok-push w ↦ rw (w.kept-is, w.in_ok-push.ensures.items, w.copy.ensures)
      (widest-with c.args.all.now c.args.others.now c.loop-key.kept.items c.loop-key.key-index c.key-item.result c.loop-key-test.true c.key-item.is c.loop-key.invariant)
  | else-not-is_covered w ↦ rw w.kept-is
      (widest-without c.args.all.now c.args.others.now c.loop-key.kept.items c.loop-key.key-index c.key-item.result c.loop-key-test.true c.key-item.is c.loop-key.invariant
      (subst (λ (kept : List (List ℕ)). (IsCovered kept c.key-item.result) ⊎ (IsCovered c.args.others.now c.key-item.result)) c.as_slice.ensures.value (c.is_covered.ensures w.if-not-is_covered.false)))
]
