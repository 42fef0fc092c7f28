use Rattle.std.proofs.Common.{sym, subst}
use Rattle.saw_context.specs.Undo.{IsOneStep}
use Rattle.saw_context.proofs.Undos.{came_by-push}
use Rattle.saw_context.proofs.overlay.Overlay.note.Goals as goal

pub returns-in-Ok-clause-undos : goal.returns-in-Ok-clause-undos
returns-in-Ok-clause-undos c before earlier came step =
    rw c.in-Ok.ensures.items (came_by-push earlier before c.args.self.now c.args.undos.now.items c.args.undo came step)

pub returns-in-Err-clause-err : goal.returns-in-Err-clause-err
returns-in-Err-clause-err c before step =
    c.take_back.ensures before (subst (λ undo. IsOneStep before undo c.args.self.now) (sym c.in-Err.ensures.value_returned) step)

pub returns-in-Err-clause-undos : goal.returns-in-Err-clause-undos
returns-in-Err-clause-undos c before earlier came step =
    let back = c.take_back.ensures before (subst (λ undo. IsOneStep before undo c.args.self.now) (sym c.in-Err.ensures.value_returned) step) in
    rw (c.in-Err.ensures.items, back) came
