use Rattle.std.proofs.Common.{rules}
use Rattle.saw_address.proofs.digest.first_64.Goals as goal

pub returns : goal.returns
returns c = search rules
