use Rattle.std.proofs.Common.{◌≡◌, nat_le, take}
use Rattle.std.specs.List.{filter}
use Rattle.saw_predtree.proofs.thin.at_least.Given as goal

abbrev pub invariant-loop-number : goal.invariant-loop-number
invariant-loop-number l = l.some.items ≡ filter (λ n. nat_le l.from n) (take l.number-index l.found)
