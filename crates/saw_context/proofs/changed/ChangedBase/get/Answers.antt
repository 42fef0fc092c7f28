use Rattle.std.proofs.Common.{sym, ◌∙◌}
use Rattle.saw_context.proofs.Gathered.{seen-change, seen-below}
use Rattle.saw_context.proofs.changed.ChangedBase.get.Goals as goal

pub returns-in-Some : goal.returns-in-Some
returns-in-Some g c =
    c.lent.ensures
    ∙ seen-change (g.B.Base.entry c.self.inside.below.now) c.args.self.now c.self.inside.changes c.args.at.now c.in-Some.change.now c.self.view_is
    (sym c.in-Some.ensures)

pub returns-in-None : goal.returns-in-None
returns-in-None g c =
    c.get-in-None.ensures
    ∙ seen-below (g.B.Base.entry c.self.inside.below.now) c.args.self.now c.self.inside.changes c.args.at.now c.self.view_is (sym c.in-None.ensures)
