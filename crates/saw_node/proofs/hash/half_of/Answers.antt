use Rattle.std.proofs.Common.{rules}
use Rattle.saw_node.proofs.hash.half_of.Goals as goal

pub returns : goal.returns
returns c = search rules
