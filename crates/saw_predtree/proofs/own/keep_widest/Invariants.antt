use Rattle.std.proofs.Common.{take}
use Rattle.saw_predtree.specs.Searches.{AreWidest}
use Rattle.saw_predtree.proofs.own.keep_widest.Given as goal

abbrev pub invariant-loop-key : goal.invariant-loop-key
invariant-loop-key l = AreWidest (take l.key-index l.all) l.others l.kept.items
