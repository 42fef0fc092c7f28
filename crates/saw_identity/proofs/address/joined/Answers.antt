use Rattle.std.proofs.Common.{replicate, arith}
use Rattle.saw_address.proofs.Parts.{written_behind}
use Rattle.saw_identity.proofs.address.joined.Goals as goal

pub returns : goal.returns
returns c =
    rw (c.copy_from_slice.ensures.after, c.copy_from_slice-2.ensures.after)
    (written_behind c.args.front.now c.args.back.now (replicate 24 0) 7 24 c.told-front (omega arith))
