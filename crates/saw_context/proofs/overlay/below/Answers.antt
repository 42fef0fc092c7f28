use Rattle.saw_context.specs.Views.{layers_of}
use Rattle.saw_context.proofs.Overlays.{over_entry, over_none}
use Rattle.saw_context.proofs.overlay.below.Goals as goal

pub returns-in-Some : goal.returns-in-Some
returns-in-Some g c =
    rw (over_entry (g.B.Base.entry c.args.base.now) (layers_of c.args.view.now) c.args.at.now c.in-Some.entry.now c.in-Some.ensures) c.copy_of.ensures

pub returns-in-Some-get : goal.returns-in-Some-get
returns-in-Some-get g c =
    rw (over_none (g.B.Base.entry c.args.base.now) (layers_of c.args.view.now) c.args.at.now c.in-None.ensures, ← c.in-Some-get.ensures)
    c.from_slice.ensures

pub returns-in-None-get : goal.returns-in-None-get
returns-in-None-get g c =
    rw (over_none (g.B.Base.entry c.args.base.now) (layers_of c.args.view.now) c.args.at.now c.in-None.ensures, ← c.in-None-get.ensures) c.new.ensures
