use Rattle.std.proofs.Common.{◌≡◌, ◌++◌}
use Rattle.saw_predtree.specs.Places.{readers_at, writer_at}
use Rattle.saw_predtree.specs.Searches.{met_above}
use Rattle.saw_predtree.specs.Trees.{AreMarked}
use Rattle.saw_predtree.proofs.search.gather_above.Given as goal

abbrev pub invariant-loop-len : goal.invariant-loop-len
invariant-loop-len l = AreMarked l.lengths (writer_at l.places) (readers_at l.places) → l.found.items ≡ l.fn.found.items ++ met_above l.usage l.places l.key l.len
