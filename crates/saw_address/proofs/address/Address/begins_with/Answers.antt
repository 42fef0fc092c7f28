use Rattle.std.proofs.Common.{arith, ◌∙◌}
use Rattle.saw_address.proofs.Digits.{IsBytes-is_address}
use Rattle.saw_address.proofs.Pairs.{begins_exactly}
use Rattle.saw_address.proofs.address.Address.begins_with.Goals as goal

pub returns : goal.returns
returns c =
    c.begins_with.ensures
    ∙ rw (c.as_bytes.ensures.value, c.as_slice.ensures.bytes) (begins_exactly c.args.self.now c.args.text.now (IsBytes-is_address c.args.self.now c.as_slice.ensures.is) (omega arith) (omega arith))
