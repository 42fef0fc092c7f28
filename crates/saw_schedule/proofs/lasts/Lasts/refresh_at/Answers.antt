use Rattle.std.proofs.Common.{◌≡◌, Option, refl, ap, ◌∙◌, bytes_eq, if◌then◌else◌}
use Rattle.std.specs.FinMap as finite
use Rattle.saw_context.specs.declared.view.ViewEntry.{ViewEntry}
use Rattle.saw_schedule.specs.Layering.{lefts_to}
use Rattle.saw_schedule.specs.Shown.{is_held_at, last_held, shown_by}
use Rattle.saw_schedule.proofs.Refreshing.{shown-anew}
use Rattle.saw_schedule.proofs.lasts.Lasts.refresh_at.Goals as goal

pub returns-clause-so : goal.returns-clause-so
returns-clause-so c =
    let test = is_held_at c.args.steps.now c.args.slots.now in
    let mid = c.last_at-last.new.self in
    let entry : c.in_ok-entry.entry ≡ shown_by c.args.steps.now (last_held test (lefts_to c.args.steps.now mid.place mid.change c.args.at)) =
    c.in_ok-entry.ensures ∙ ap (shown_by c.args.steps.now)
    (c.last_at-last.ensures.last ∙ rw (c.last_at-last.ensures.stays.0, c.last_at-last.ensures.stays.1) refl) in
    shown-anew c.args.steps.now c.args.slots.now mid
    (record { lists = mid.lists; layers = c.in_ok-self.field-0; undone = mid.undone; wide = mid.wide; place = mid.place; change = mid.change })
    c.args.at c.last_at-last.ensures.so
    (λ q. c.in_ok-self.ensures q ∙ ap (λ (one : Option ViewEntry). if bytes_eq c.args.at q then one else finite.get mid.layers q) entry) refl refl refl refl refl
