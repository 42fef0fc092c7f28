use Rattle.std.proofs.Common.{take}
use Rattle.saw_predtree.specs.Searches.{AreWidest}
use Rattle.saw_predtree.proofs.own.uncovered.Given as goal

abbrev pub invariant-loop-prefix : goal.invariant-loop-prefix
invariant-loop-prefix l = AreWidest (take l.prefix-index l.prefixes) l.others l.keys.items
