use Rattle.saw_words.proofs.BothForms.{options_are_read}
use Rattle.saw_words.proofs.laws.options_are_read.Goals as goal

pub returns : goal.returns
returns c = options_are_read
