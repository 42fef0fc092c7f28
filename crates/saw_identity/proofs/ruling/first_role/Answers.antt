use Rattle.std.proofs.Common.{sym, ◌∙◌}
use Rattle.saw_identity.proofs.Rulings.{named_at, named_nowhere}
use Rattle.saw_identity.specs.declared.role.Role.{Role}
use Rattle.saw_identity.proofs.ruling.first_role.Goals as goal

pub returns-in-Some : goal.returns-in-Some
returns-in-Some c =
    let place = rw (c.deref.ensures.value, c.into_vec-roles.ensures) at (sym c.place_of.ensures ∙ c.in-Some.is) in
    let item = rw c.into_vec-roles.ensures at c.swap_remove.ensures.value in
    named_at (λ (role : Role). role.name) c.args.name.now c.args.list.roles c.in-Some.place c.swap_remove.result item place

pub returns : goal.returns
returns c =
    let place = rw (c.deref.ensures.value, c.into_vec-roles.ensures) at (sym c.place_of.ensures ∙ c.in-None.is) in
    named_nowhere (λ (role : Role). role.name) c.args.name.now c.args.list.roles place
