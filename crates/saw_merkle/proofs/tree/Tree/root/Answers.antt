use Rattle.std.proofs.Common.{◌≡◌, subst}
use Rattle.saw_address.specs.Maps.{StateMap}
use Rattle.saw_node.specs.Trees.{root_of_map}
use Rattle.saw_merkle.proofs.tree.Tree.root.Goals as goal

pub returns : goal.returns
returns g c = subst (λ (m : StateMap). c.self.inside.root ≡ root_of_map g.H.NodeHasher.hash_of m) c.self.view_is c.self.invariant.named
