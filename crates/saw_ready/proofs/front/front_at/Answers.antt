use Rattle.std.proofs.Common.{◌≡◌, ◌+◌, ◌-◌, arith, sym}
use Rattle.saw_ready.proofs.front.front_at.Goals as goal

pub returns : goal.returns
returns c =
    let first = c.args.first in
    let seen = c.args.seen in
    let same : first + (seen - first) ≡ seen = omega arith in (
      seen - first,
      omega arith,
      λ j lt. c.requires.seen.valid (first + j) (omega arith) (omega (arith, lt)),
      rw same (c.requires.stop (omega arith)),
      rw same (sym c.if-is_invalid.ensures),
    )
