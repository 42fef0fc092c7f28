use Rattle.std.proofs.Common.{◌≡◌, ◌-◌, suc, List, Some, sym, ap, subst, ◌∙◌, arith, get_or, filter}
use Rattle.saw_schedule.specs.Layering.{IsHeldEnd}
use Rattle.saw_schedule.specs.Shown.{is_held_at}
use Rattle.saw_schedule.specs.declared.lasts.Left.{Left}
use Rattle.saw_schedule.proofs.Lefts.{at-end, get-taken, held-before, no-end}
use Rattle.saw_schedule.proofs.refresh.trim.Goals as goal

pub returns-then-end-eq0-clause-last : goal.returns-then-end-eq0-clause-last
returns-then-end-eq0-clause-last c =
    let test = is_held_at c.args.steps.now c.args.slots.now in
    let is : IsHeldEnd test c.args.lefts.now.items c.held_end-end.result = subst (λ (xs : List Left). IsHeldEnd test xs c.held_end-end.result) c.deref.ensures.value c.held_end-end.ensures in
    sym (no-end test c.args.lefts.now.items c.held_end-end.result is c.if-end-eq0.true)

pub returns-clause-last : goal.returns-clause-last
returns-clause-last c =
    let test = is_held_at c.args.steps.now c.args.slots.now in
    let end = c.held_end-end.result in
    let left = c.index.result.now in
    let is : IsHeldEnd test c.args.lefts.now.items end = subst (λ (xs : List Left). IsHeldEnd test xs end) c.deref.ensures.value c.held_end-end.ensures in
    let e : end ≡ suc (end - 1) = (let some = c.if-end-eq0.false in omega (arith, some)) in
    let here : left ≡ get_or c.args.lefts.now.items (end - 1) left =
    c.index.ensures ∙ (ap (λ (xs : List Left). get_or xs (end - 1) left) c.truncate.ensures.items ∙ get-taken end (end - 1) c.args.lefts.now.items left (omega (arith, e))) in
    ap (λ (one : Left). Some one) here ∙ sym (at-end test c.args.lefts.now.items end is (end - 1) left e)

pub returns-clause-held : goal.returns-clause-held
returns-clause-held c =
    let test = is_held_at c.args.steps.now c.args.slots.now in
    let end = c.held_end-end.result in
    let is : IsHeldEnd test c.args.lefts.now.items end = subst (λ (xs : List Left). IsHeldEnd test xs end) c.deref.ensures.value c.held_end-end.ensures in
    ap (filter test) c.truncate.ensures.items ∙ held-before test c.args.lefts.now.items end is
