use Rattle.saw_address.proofs.Digits.{encode_lower_once}
use Rattle.saw_address.proofs.laws.text_is_one.Goals as goal

pub returns : goal.returns
returns c = encode_lower_once
