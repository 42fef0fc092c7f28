use Rattle.std.proofs.lemmas.Bool.{and_parts}
use Rattle.saw_words.proofs.parsed.read_words.Goals as goal

pub returns-in-Ok : goal.returns-in-Ok
returns-in-Ok c = (c.in-Ok.ensures.matches (and_parts _ _ c.requires).0).0
