use Rattle.saw_address.proofs.Digits.{is_address-from}
use Rattle.saw_address.proofs.address.Address.as_slice.Goals as goal

pub returns-clause-is : goal.returns-clause-is
returns-clause-is c = rw (← c.self.view_is) (is_address-from c.self.inside.bytes c.self.invariant c.show_bytes.ensures)
