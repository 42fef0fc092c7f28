use Rattle.saw_address.proofs.Digits.{is_address_text-encode_lower}
use Rattle.saw_address.proofs.laws.address_is_text.Goals as goal

pub returns : goal.returns
returns c = is_address_text-encode_lower
