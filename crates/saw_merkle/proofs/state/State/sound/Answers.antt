use Rattle.std.proofs.Common.{◌≡◌, Some, subst}
use Rattle.saw_address.specs.Maps.{no_entries}
use Rattle.saw_node.specs.Trees.{root_of_map}
use Rattle.saw_runs.specs.Readings.{read_at}
use Rattle.saw_merkle.specs.Clashes.{AreTold}
use Rattle.saw_merkle.specs.States.{AreRooted, States, state_at}
use Rattle.saw_merkle.proofs.Sound.{are_rooted, are_told, empty_is_known}
use Rattle.saw_merkle.proofs.state.State.sound.Goals as goal

pub returns-clause-rooted : goal.returns-clause-rooted
returns-clause-rooted g c =
    let hash = g.H.NodeHasher.hash_of in
    subst (AreRooted hash) c.self.view_is
    (are_rooted hash (read_at c.self.inside.tables) c.self.inside.roots.keys c.self.inside.empty c.self.invariant)

pub returns-clause-told : goal.returns-clause-told
returns-clause-told g c =
    let hash = g.H.NodeHasher.hash_of in
    subst (AreTold hash) c.self.view_is
    (are_told hash (read_at c.self.inside.tables) c.self.inside.roots.keys c.self.inside.empty c.self.invariant)

pub returns-clause-empty : goal.returns-clause-empty
returns-clause-empty g c =
    let hash = g.H.NodeHasher.hash_of in
    subst (λ (s : States). state_at s (root_of_map hash no_entries) ≡ Some no_entries) c.self.view_is
    (empty_is_known hash (read_at c.self.inside.tables) c.self.inside.roots.keys c.self.inside.empty c.self.invariant)
