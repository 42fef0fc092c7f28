use Rattle.std.proofs.Common.{◌≡◌, map, subst}
use Rattle.std.specs.FinMap as finite
use Rattle.saw_address.specs.Maps.{StateMap}
use Rattle.saw_node.specs.Nodes.{shape_of}
use Rattle.saw_runs.specs.Listing.{map_read}
use Rattle.saw_runs.specs.Paths.{path_of}
use Rattle.saw_runs.specs.Readings.{read_at}
use Rattle.saw_merkle.proofs.tree.Tree.path.Goals as goal

pub returns : goal.returns
returns g c =
    let m = map_read (read_at c.self.inside.tables.now) c.self.inside.root in
    subst (λ (m : StateMap). map shape_of c.in_ok-nodes.nodes.items ≡ path_of g.H.NodeHasher.hash_of (finite.entries m) c.args.at.now) c.self.view_is
    (c.in_ok-nodes.ensures m c.self.invariant)
