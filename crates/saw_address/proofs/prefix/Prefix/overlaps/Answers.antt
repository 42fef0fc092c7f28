use Rattle.std.proofs.Common.{rules}
use Rattle.saw_address.proofs.prefix.Prefix.overlaps.Goals as goal

pub returns-else-starts_with : goal.returns-else-starts_with
returns-else-starts_with c = search rules
