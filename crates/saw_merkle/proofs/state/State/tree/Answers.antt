use Rattle.std.proofs.Common.{sym, ◌∙◌}
use Rattle.saw_runs.specs.Readings.{read_at}
use Rattle.saw_merkle.proofs.Sound.{known_here, known_rooted, unknown}
use Rattle.saw_merkle.proofs.state.State.tree.Goals as goal

pub returns-then-not-contains-clause-is : goal.returns-then-not-contains-clause-is
returns-then-not-contains-clause-is g c =
    unknown (read_at c.self.inside.tables) c.self.inside.roots.keys c.args.root.now c.args.self.now c.self.view_is
    (sym c.contains.ensures ∙ c.if-not-contains.true)

pub returns-clause-is : goal.returns-clause-is
returns-clause-is g c =
    known_here (read_at c.self.inside.tables) c.self.inside.roots.keys c.args.root.now c.args.self.now c.self.view_is
    (sym c.contains.ensures ∙ c.if-not-contains.false)

pub returns-clause-rooted : goal.returns-clause-rooted
returns-clause-rooted g c =
    known_rooted g.H.NodeHasher.hash_of (read_at c.self.inside.tables) c.self.inside.roots.keys c.self.inside.empty c.args.root.now c.self.invariant
    (sym c.contains.ensures ∙ c.if-not-contains.false)
