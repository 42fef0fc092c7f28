use Rattle.saw_generate.proofs.Chaining.{begun}
use Rattle.saw_generate.proofs.chain.Chain.new.Goals as goal

pub returns : goal.returns
returns c =
    λ signing.
    let all = begun signing c.args.wish.now c.new.result.entries c.new-2.result.state c.new.ensures.empty c.new-2.ensures in
    record { parent = all.0; left = all.1; drawn = all.2 }
