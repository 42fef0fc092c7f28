use Rattle.std.proofs.Common.{List, Option, ap, ◌∙◌}
use Rattle.std.specs.Global.{Global}
use Rattle.std.specs.declared.vec.Vec.{Vec}
use Rattle.saw_schedule.specs.Lasts.{items_in}
use Rattle.saw_schedule.specs.Shown.{is_held_at, last_held}
use Rattle.saw_schedule.proofs.Refreshing.{last-is}
use Rattle.saw_schedule.proofs.lasts.Lasts.last_of.Goals as goal

pub returns-in-Some : goal.returns-in-Some
returns-in-Some c =
    let test = is_held_at c.args.steps.now c.args.slots.now in
    c.held_in.ensures ∙ (ap (λ (list : List _). last_held test list) c.deref.ensures.value
    ∙ (ap (λ (list : Option (Vec _ Global)). last_held test (items_in list)) c.in-Some.ensures.value
    ∙ last-is c.args.steps.now c.args.slots.now c.args.self.now c.args.at.now c.requires.so))

pub returns-in-None : goal.returns-in-None
returns-in-None c =
    let test = is_held_at c.args.steps.now c.args.slots.now in
    ap (λ (list : Option (Vec _ Global)). last_held test (items_in list)) c.in-None.ensures.value
    ∙ last-is c.args.steps.now c.args.slots.now c.args.self.now c.args.at.now c.requires.so
