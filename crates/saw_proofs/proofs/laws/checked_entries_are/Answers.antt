use Rattle.saw_proofs.proofs.Presence.{checked_right}
use Rattle.saw_proofs.proofs.laws.checked_entries_are.Goals as goal

pub returns : goal.returns
returns g c =
    let here = g.met.H.NodeHasher g.world.𝓛 g.world.𝓜 g.world.𝓡 ((λ s x. x), (λ x. x), (λ x. x), (λ x. x)) in
    λ root address proof answer m is are named checked. checked_right g.H.NodeHasher.hash_of here.is_hash m are address is root proof answer named checked
