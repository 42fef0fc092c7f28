use Rattle.std.proofs.Common.{rules}
use Rattle.saw_ids.proofs.set.+insertion.Goals as goal

pub insert_in-returns-then-turns-clause-more : goal.insert_in-returns-then-turns-clause-more
insert_in-returns-then-turns-clause-more t c = search rules
