use Rattle.std.proofs.Common.{take}
use Rattle.saw_predtree.specs.Places.{readers_at, writer_at}
use Rattle.saw_predtree.specs.Searches.{Gathers, overlaps_any}
use Rattle.saw_predtree.specs.Trees.{AreMarked}
use Rattle.saw_predtree.proofs.search.search.Given as goal

abbrev pub invariant-loop-key : goal.invariant-loop-key
invariant-loop-key l = AreMarked l.lengths (writer_at l.places) (readers_at l.places)
    → Gathers l.usage (writer_at l.places) (readers_at l.places) (overlaps_any (take l.key-index l.keys)) l.fn.found.items l.found.items
