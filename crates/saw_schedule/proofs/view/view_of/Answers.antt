use Rattle.std.proofs.Common.{Option, None, Result, Ok, Err, IfOk, if◌then◌else◌, ap, ◌∙◌}
use Rattle.saw_context.specs.Conversation.{are_covering}
use Rattle.saw_context.specs.declared.view.View.{View}
use Rattle.saw_context.specs.declared.view.ViewEntry.{ViewEntry}
use Rattle.saw_schedule.specs.Shown.{shown_at}
use Rattle.saw_schedule.proofs.LookingUp.{looked-all, shown-far}
use Rattle.saw_schedule.proofs.TakeEnds.{all-shown}
use Rattle.saw_schedule.proofs.view.view_of.Goals as goal

if_ok : {E : Type 0} (P Q : View → Type 0) → ((view : View) → P view → Q view) → (r : Result View E) → IfOk r P → IfOk r Q
if_ok P Q f (Ok view) p = f view p
if_ok P Q f (Err e) p = p

pub returns-then-lasts : goal.returns-then-lasts
returns-then-lasts c =
    let right = all-shown c.args.steps.now c.args.slots.now c.args.lasts.now c.requires.so c.requires.all c.requires.none c.if-lasts.true in
    if_ok _ _ (λ view shows at. shows at ∙ ap (λ (x : Option ViewEntry). if are_covering c.args.texts.now at then x else None) (right at)) c.view_over.result c.view_over.ensures

pub returns-else-lasts : goal.returns-else-lasts
returns-else-lasts c =
    if_ok _ _
    (λ view looked. looked-all (shown_at c.args.steps.now c.args.slots.now) c.args.texts.now view looked
    (shown-far c.args.steps.now c.args.slots.now c.args.lasts.now c.requires.so c.requires.all)) c.looked_up.result c.looked_up.ensures
