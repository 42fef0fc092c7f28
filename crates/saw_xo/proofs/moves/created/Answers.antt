use Rattle.std.proofs.Common.{sym}
use Rattle.saw_xo.proofs.Lookups.{created_present, created_absent}
use Rattle.saw_xo.proofs.moves.created.Goals as goal

pub returns-then-contains_key : goal.returns-then-contains_key
returns-then-contains_key c = created_present c.args.games.entries c.args.name (sym c.if-contains_key.ensures)

pub returns : goal.returns
returns c =
    created_absent c.args.games.entries c.insert.new.self.entries c.args.name c.new_game.result
    (sym c.if-contains_key.ensures) c.new_game.ensures c.in_ok-insert.ensures.updates.0
