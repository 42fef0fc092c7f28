use Rattle.std.proofs.Common.{◌≡◌, [], map, take}
use Rattle.saw_rules.specs.Courses.{count_for}
use Rattle.saw_rules.proofs.counting.no_counts.Given as goal

abbrev pub invariant-loop-rule : goal.invariant-loop-rule
invariant-loop-rule l = l.counts.items ≡ map (count_for []) (take l._rule-index l.rules)
