use Rattle.std.proofs.Common.{sym, ◌∙◌}
use Rattle.saw_identity.proofs.Rulings.{named_at, named_nowhere}
use Rattle.saw_identity.specs.declared.policy.Policy.{Policy}
use Rattle.saw_identity.proofs.ruling.first_policy.Goals as goal

pub returns-in-Some : goal.returns-in-Some
returns-in-Some c =
    let place = rw (c.deref.ensures.value, c.into_vec-policies.ensures) at (sym c.place_of.ensures ∙ c.in-Some.is) in
    let item = rw c.into_vec-policies.ensures at c.swap_remove.ensures.value in
    named_at (λ (policy : Policy). policy.name) c.args.name.now c.args.list.policies c.in-Some.place c.swap_remove.result item place

pub returns : goal.returns
returns c =
    let place = rw (c.deref.ensures.value, c.into_vec-policies.ensures) at (sym c.place_of.ensures ∙ c.in-None.is) in
    named_nowhere (λ (policy : Policy). policy.name) c.args.name.now c.args.list.policies place
