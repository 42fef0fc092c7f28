use Rattle.std.proofs.Common.{refl}
use Rattle.saw_runs.specs.Readings.{read_at}
use Rattle.saw_merkle.proofs.Sound.{empty_sound, empty_states}
use Rattle.saw_merkle.proofs.state.State.new.Goals as goal

pub invariant_of-result : goal.invariant_of-result
invariant_of-result g c =
    let made = c.in_ok-tables.ensures in
    empty_sound g.H.NodeHasher.hash_of (read_at c.in_ok-tables.tables) made.0 c.in_ok-piece.piece.hash c.in_ok-piece.piece
    c.in_ok-piece.ensures.piece c.in_ok-piece.ensures.hash refl made.1 made.2 c.in_ok-roots.roots.keys c.in_ok-roots.ensures

pub returns : goal.returns
returns g c =
    let made = c.in_ok-tables.ensures in
    empty_states g.H.NodeHasher.hash_of (read_at c.in_ok-tables.tables) made.0 c.in_ok-piece.piece.hash c.in_ok-piece.piece
    c.in_ok-piece.ensures.piece c.in_ok-piece.ensures.hash refl made.1 made.2 c.in_ok-roots.roots.keys c.in_ok-roots.ensures
