use Rattle.std.proofs.Common.{ap, ◌∷◌}
use Rattle.saw_identity.specs.Addresses.{role_address}
use Rattle.saw_identity.proofs.Roles.{role_tail}
use Rattle.saw_identity.proofs.address.role_address.Goals as goal

pub returns : goal.returns
unfolding role_address
returns c =
    rw (c.under.ensures, c.behind.ensures, c.joined.ensures, c.front_of.ensures, c.back_of.ensures, c.address_of-at.ensures)
    (ap (λ tail. 0 ∷ 0 ∷ 0x1d ∷ 1 ∷ tail) (role_tail c.args.name.now))
