use Rattle.std.proofs.Common.{◌≡◌, ◌++◌, List, length, map}
use Rattle.std.specs.Arc.{arc_value}
use Rattle.saw_messages.specs.TxShapes.{TxShape}
use Rattle.saw_rules.specs.OnChainRules.{is_broken}
use Rattle.saw_rules.specs.Courses.{count_for}
use Rattle.saw_rules.proofs.Search.{Seeks}
use Rattle.saw_rules.proofs.judging.first_broken.Given as goal

abbrev pub invariant-loop-place : goal.invariant-loop-place
invariant-loop-place l = (before : List TxShape) → l.counts ≡ map (count_for (before ++ map arc_value l.txs)) l.rules → l.earlier ≡ length before
    → Seeks (is_broken l.signer before (map arc_value l.txs)) l.place l.rules
