use Rattle.saw_settings.proofs.Trimming.{trimmed_is}
use Rattle.saw_settings.proofs.value.trimmed.Goals as goal

pub returns : goal.returns
returns c = trimmed_is c.args.text.now c.leading_spaces.result c.trailing_spaces.result c.leading_spaces.ensures c.trailing_spaces.ensures
