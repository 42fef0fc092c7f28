use Rattle.std.proofs.Common.{rules}
use Rattle.saw_tpside.proofs.TextPlaces.{place_again}
use Rattle.saw_tpside.proofs.texts.address_text.Goals as goal

pub returns-clause-place : goal.returns-clause-place
returns-clause-place c = place_again c.from_string.result c.args.address.now c.as_slice.ensures.is (search rules)
