use Rattle.std.proofs.Common.{rules}
use Rattle.saw_ids.proofs.set.+with.Goals as goal

pub returns-in_ok-zero-in-Fork : goal.returns-in_ok-zero-in-Fork
returns-in_ok-zero-in-Fork t c = search rules

pub returns-in_ok-one-in-Fork-2 : goal.returns-in_ok-one-in-Fork-2
returns-in_ok-one-in-Fork-2 t c = search rules
