use Rattle.std.proofs.Common.{◌≡◌, take}
use Rattle.saw_queries.proofs.copies.copy_changes.Given as goal

abbrev pub invariant-loop-change : goal.invariant-loop-change
invariant-loop-change l = l.made ≡ take l.change-index l.changes
