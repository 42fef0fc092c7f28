use Rattle.std.proofs.Common.{◌≡◌, ◌++◌, List, map, take}
use Rattle.std.specs.Arc.{arc_value}
use Rattle.saw_messages.specs.TxShapes.{TxShape}
use Rattle.saw_rules.specs.Courses.{count_for}
use Rattle.saw_rules.proofs.counting.counts_behind.Given as goal

abbrev pub invariant-loop-place : goal.invariant-loop-place
invariant-loop-place l = (earlier : List TxShape) → l.counts ≡ map (count_for earlier) l.rules
    → l.made.items ≡ map (count_for (earlier ++ map arc_value l.txs)) (take l.place l.rules)
