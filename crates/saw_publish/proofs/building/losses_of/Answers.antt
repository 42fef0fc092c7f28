use Rattle.std.proofs.Common.{length, ap, arith, ◌∙◌}
use Rattle.saw_publish.proofs.Staying.{length-further}
use Rattle.saw_publish.proofs.building.losses_of.Goals as goal

pub losses-requires : goal.losses-requires
losses-requires c =
    let same = ap length c.in_ok-fates.ensures ∙ length-further c.args.sifted c.args.ran in
    omega (arith, same, c.requires)
