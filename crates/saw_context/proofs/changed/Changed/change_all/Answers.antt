use Rattle.std.proofs.lemmas.Result.{on_ok_weaker, on_err_weaker}
use Rattle.saw_context.proofs.Gathered.{after-changes, after-front}
use Rattle.saw_context.proofs.changed.Changed.change_all.Goals as goal

pub returns-clause-ok : goal.returns-clause-ok
returns-clause-ok g c =
    on_ok_weaker c.change_all.result
    (after-changes (g.B.Base.entry c.self.inside.below.now) c.args.self.now c.self.inside.changes c.change_all.new.self c.args.changes.now c.self.view_is)
    c.change_all.ensures.ok

pub returns-clause-front : goal.returns-clause-front
returns-clause-front g c =
    on_err_weaker c.change_all.result
    (after-front (g.B.Base.entry c.self.inside.below.now) c.args.self.now c.self.inside.changes c.change_all.new.self c.args.changes.now c.self.view_is)
    c.change_all.ensures.front
