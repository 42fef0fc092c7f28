use Rattle.saw_address.proofs.Digits.{digit_by_sum}
use Rattle.saw_address.proofs.text.digit_of.Goals as goal

pub returns : goal.returns
returns c = digit_by_sum c.args.value c.requires
