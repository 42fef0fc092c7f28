use Rattle.std.proofs.Common.{ap, ◌∙◌}
use Rattle.saw_link.specs.Hearing.{place_of}
use Rattle.saw_tpside.proofs.TextPlaces.{no_place}
use Rattle.saw_tpside.proofs.texts.no_address.Goals as goal

pub returns-clause-place : goal.returns-clause-place
returns-clause-place c = ap place_of c.new.ensures ∙ no_place
