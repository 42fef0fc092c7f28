use Rattle.saw_words.proofs.Numerals.{number_read}
use Rattle.saw_words.proofs.numbers.value_of.Goals as goal

pub returns : goal.returns
returns c = λ is. rw c.ok.ensures.value (number_read c.args.text.now c.parse.result c.parse.ensures.value.0 is)
