use Rattle.std.proofs.Common.{rules}
use Rattle.saw_address.proofs.prefix.Prefix.covers.Goals as goal

pub returns : goal.returns
returns c = search rules
