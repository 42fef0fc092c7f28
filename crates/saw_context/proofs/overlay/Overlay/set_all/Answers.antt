use Rattle.std.proofs.Common.{sym, subst, refl}
use Rattle.saw_context.specs.Undo.{CameBy}
use Rattle.saw_context.proofs.overlay.Overlay.set_all.Goals as goal

pub returns-in-Err-clause-err : goal.returns-in-Err-clause-err
returns-in-Err-clause-err c =
    c.take_all_back.ensures c.args.self.now (c.in-Err.ensures.undos c.args.self.now
    (subst (λ undos. CameBy c.args.self.now undos c.args.self.now) (sym c.new-undos.ensures.items) refl))
