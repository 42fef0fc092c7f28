use Rattle.std.proofs.Common.{◌∙◌}
use Rattle.saw_context.proofs.Undos.{is_there, removed_again, inserted_again}
use Rattle.saw_context.proofs.overlay.Overlay.take_back.Goals as goal

pub returns-in-Some : goal.returns-in-Some
returns-in-Some c before step =
    c.put_again.ensures (is_there before c.args.self.now c.args.undo step)
    ∙ inserted_again before c.args.self.now c.args.undo c.in-Some.change step c.in-Some.is

pub returns-in-None : goal.returns-in-None
returns-in-None c before step = c.remove.ensures ∙ removed_again before c.args.self.now c.args.undo step c.in-None.is
