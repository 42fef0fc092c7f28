use Rattle.std.proofs.Common.{◌≡◌, ℕ, true, List, Option, None, refl, sym, ap, subst, ◌∙◌, if◌then◌else◌}
use Rattle.std.specs.FinMap as finite
use Rattle.std.specs.Str.{bytes_eq}
use Rattle.hex.specs.Hex.{encode_lower}
use Rattle.saw_address.specs.Texts.{is_address_text}
use Rattle.saw_context.specs.declared.view.ViewEntry.{ViewEntry}
use Rattle.saw_schedule.specs.Shown.{is_held_at, last_held, shown_at, shown_by}
use Rattle.saw_schedule.proofs.LookingUp.{looked-more, looked-past, whole-covers, whole-long, whole-none, whole-same}
use Rattle.saw_schedule.proofs.Undoing.{through}
use Rattle.saw_schedule.proofs.view.look_up.Goals as goal

pub returns-in_default-last_of : goal.returns-in_default-last_of
returns-in_default-last_of c = λ texts looked.
    let steps = c.args.steps.now in
    let slots = c.args.slots.now in
    let at : List ℕ = c.in-Some.at in
    let is : is_address_text c.args.text.now ≡ true = subst (λ (text : List ℕ). is_address_text text ≡ true) c.as_str.ensures (c.in-Some.ensures.valid.0 refl) in
    let written : encode_lower at ≡ c.args.text.now = c.in-Some.ensures.value ∙ c.as_str.ensures in
    let none : shown_at steps slots at ≡ None =
    ap (λ lefts. shown_by steps (last_held (is_held_at steps slots) lefts)) (sym (through steps c.args.lasts.now.place c.args.lasts.now.change c.requires.all at))
    ∙ ap (shown_by steps) (sym c.in_default-last_of.ensures) in
    looked-past (shown_at steps slots) texts c.args.view.now looked c.args.text.now (whole-none c.args.text.now at is written (shown_at steps slots) none)

pub returns : goal.returns
returns c = λ texts looked.
    let steps = c.args.steps.now in
    let slots = c.args.slots.now in
    let at : List ℕ = c.in-Some.at in
    let is : is_address_text c.args.text.now ≡ true = subst (λ (text : List ℕ). is_address_text text ≡ true) c.as_str.ensures (c.in-Some.ensures.valid.0 refl) in
    let written : encode_lower at ≡ c.args.text.now = c.in-Some.ensures.value ∙ c.as_str.ensures in
    let entry : c.in_ok-entry_at.field-0 ≡ shown_at steps slots at =
    c.in_ok-entry_at.ensures ∙ (ap (shown_by steps) c.in-Some-last_of.ensures
    ∙ ap (λ lefts. shown_by steps (last_held (is_held_at steps slots) lefts)) (through steps c.args.lasts.now.place c.args.lasts.now.change c.requires.all at)) in
    looked-more (shown_at steps slots) texts c.args.view.now looked c.args.text.now at c.in-Some-parse.prefix _ (whole-long c.args.text.now at is written)
    (whole-covers c.args.text.now at is written) (whole-same c.args.text.now at is written c.in-Some-parse.prefix (c.in-Some-parse.ensures.value ∙ c.as_str-2.ensures))
    (λ q. c.in_ok-view.ensures q ∙ ap (λ (one : Option ViewEntry). if bytes_eq at q then one else finite.get c.args.view.now.layers q) entry)
    c.in_ok-push.ensures.items
