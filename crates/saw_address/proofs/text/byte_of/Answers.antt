use Rattle.saw_address.proofs.Digits.{byte_of_values}
use Rattle.saw_address.proofs.text.byte_of.Goals as goal

pub returns : goal.returns
returns c = byte_of_values c.args.high c.args.low _ _ c.digit_value.ensures.digit c.digit_value.ensures.other c.digit_value-2.ensures.digit c.digit_value-2.ensures.other
