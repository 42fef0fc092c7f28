use Rattle.saw_xo.proofs.Lookups.{deleted_present, deleted_absent}
use Rattle.saw_xo.proofs.moves.deleted.Goals as goal

pub returns-in-Some : goal.returns-in-Some
returns-in-Some c =
    deleted_present c.args.games.entries c.remove.new.self.entries c.args.name c.in-Some.field-0 c.in-Some.ensures.value c.in-Some.ensures.updates.0

pub returns : goal.returns
returns c = deleted_absent c.args.games.entries c.args.name c.in-None.ensures.value
