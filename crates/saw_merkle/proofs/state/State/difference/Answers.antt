use Rattle.saw_runs.specs.Readings.{read_at}
use Rattle.saw_merkle.specs.States.{map_at}
use Rattle.saw_merkle.proofs.Sound.{root_known}
use Rattle.saw_merkle.proofs.state.State.difference.Goals as goal

pub returns : goal.returns
returns g c =
    let hash = g.H.NodeHasher.hash_of in
    let read = read_at c.self.inside.tables in
    let states = c.args.self.now in
    c.in_ok-changes.ensures hash (map_at states c.args.from.now) (map_at states c.args.to.now)
    (root_known hash read c.self.inside.roots.keys c.self.inside.empty c.args.from.now states c.self.invariant c.self.view_is c.requires.from)
    (root_known hash read c.self.inside.roots.keys c.self.inside.empty c.args.to.now states c.self.invariant c.self.view_is c.requires.to)
