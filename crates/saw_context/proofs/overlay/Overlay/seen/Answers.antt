use Rattle.saw_context.specs.Views.{over, layers_of}
use Rattle.saw_context.proofs.Overlays.{seen_own, seen_below}
use Rattle.saw_context.proofs.overlay.Overlay.seen.Goals as goal

pub returns-in-Some-Some : goal.returns-in-Some-Some
returns-in-Some-Some g c =
    let found = rw c.in-Some-Some.field-0-is at c.in-Some-Some.ensures.value in
    rw (seen_own c.args.self.now c.self.inside.changes.entries
    (over (g.B.Base.entry c.args.base.now) (layers_of c.args.view.now)) c.args.at.now _ c.self.view_is found) c.try_clone.ensures

pub returns-in-Some-None : goal.returns-in-Some-None
returns-in-Some-None g c =
    let found = rw c.in-Some-None.field-0-is at c.in-Some-None.ensures.value in
    rw (seen_own c.args.self.now c.self.inside.changes.entries
    (over (g.B.Base.entry c.args.base.now) (layers_of c.args.view.now)) c.args.at.now _ c.self.view_is found) c.new.ensures

pub returns-in-None : goal.returns-in-None
returns-in-None g c =
    rw (seen_below c.args.self.now c.self.inside.changes.entries
    (over (g.B.Base.entry c.args.base.now) (layers_of c.args.view.now)) c.args.at.now c.self.view_is c.in-None.ensures.value) c.below.ensures
