use Rattle.std.proofs.Common.{subst}
use Rattle.saw_context.specs.Undo.{CameBy}
use Rattle.saw_context.proofs.Undos.{came_by-pop}
use Rattle.saw_context.proofs.overlay.Overlay.take_all_back.Goals as goal

pub loop-undo-preserved : goal.loop-undo-preserved
loop-undo-preserved c before came =
    let last = came_by-pop before c.loop-undo.self c.pop.new.self.items c.in-Some.undo
    (subst (λ undos. CameBy before undos c.loop-undo.self) c.in-Some.ensures.items (c.loop-undo.invariant before came)) in
    rw (c.take_back.ensures last.before last.step) last.came
