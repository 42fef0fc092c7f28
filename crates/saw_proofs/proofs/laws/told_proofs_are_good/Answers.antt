use Rattle.saw_proofs.proofs.Presence.{told_accepted}
use Rattle.saw_proofs.proofs.laws.told_proofs_are_good.Goals as goal

pub returns : goal.returns
returns g c =
    let here = g.met.H.NodeHasher g.world.𝓛 g.world.𝓜 g.world.𝓡 ((λ s x. x), (λ x. x), (λ x. x), (λ x. x)) in
    λ m address answer is are nodes checked. told_accepted g.H.NodeHasher.hash_of here.is_hash m are address is answer nodes checked
