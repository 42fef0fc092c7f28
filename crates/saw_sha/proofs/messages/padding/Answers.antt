use Rattle.std.proofs.Common.{◌≡◌, ◌-◌, ◌+◌, arith}
use Rattle.sha2.proofs.Absorbing512.{padding-take}
use Rattle.saw_sha.proofs.messages.padding.Goals as goal

pub returns : goal.returns
returns c =
    let more : c.args.len - 1 + 1 ≡ c.args.len = omega arith in
    rw more at (padding-take 0x80 0 (c.args.len - 1) (omega arith))
