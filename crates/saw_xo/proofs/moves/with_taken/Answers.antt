use Rattle.std.proofs.Common.{sym, ◌∙◌}
use Rattle.saw_xo.proofs.Lookups.{taken_absent, taken_well, taken_badly}
use Rattle.saw_xo.proofs.moves.with_taken.Goals as goal

pub returns-in_default : goal.returns-in_default
returns-in_default c = taken_absent c.args.games.entries c.args.name c.args.signer.now c.args.place c.in_default.ensures.value

pub returns-in_ok-insert-in-Ok : goal.returns-in_ok-insert-in-Ok
returns-in_ok-insert-in-Ok c =
    taken_well c.args.games.entries c.insert.new.self.entries c.args.name c.args.signer.now c.args.place c.in-Some.game.now c.in-Ok.game
    c.in-Some.ensures.value (sym c.in-Ok.is ∙ c.in_ok-game.ensures) c.in_ok-insert-in-Ok.ensures.updates.0

pub returns-in-Err : goal.returns-in-Err
returns-in-Err c =
    taken_badly c.args.games.entries c.args.name c.args.signer.now c.args.place c.in-Some.game.now c.in-Err.number c.in-Some.ensures.value
    (sym c.in-Err.is ∙ c.in_ok-game.ensures)
