use Rattle.std.proofs.Common.{arith, refl}
use Rattle.saw_address.specs.declared.text.TheConstants.{VALUES}
use Rattle.saw_address.proofs.Digits.{digit_in_table, other_in_table}
use Rattle.saw_address.proofs.text.digit_value.Goals as goal

pub returns-clause-digit : goal.returns-clause-digit
returns-clause-digit c = digit_in_table VALUES c.args.byte (omega arith) refl refl

pub returns-clause-other : goal.returns-clause-other
returns-clause-other c = other_in_table VALUES c.args.byte (omega arith) refl
