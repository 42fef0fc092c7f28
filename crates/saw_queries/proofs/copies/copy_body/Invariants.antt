use Rattle.std.proofs.Common.{◌≡◌, take}
use Rattle.saw_queries.proofs.copies.copy_body.Given as goal

abbrev pub invariant-loop-part : goal.invariant-loop-part
invariant-loop-part l = l.made ≡ take l.part-index l.body
