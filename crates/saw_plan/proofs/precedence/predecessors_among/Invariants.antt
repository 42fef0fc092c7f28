use Rattle.std.proofs.Common.{◌≡◌}
use Rattle.saw_plan.specs.BatchShapes.{shapes_of}
use Rattle.saw_plan.specs.Precedence.{numbers_below, precedes_in}
use Rattle.saw_plan.proofs.precedence.predecessors_among.Given as goal

abbrev pub invariant-loop-j : goal.invariant-loop-j
invariant-loop-j l = l.found.items ≡ numbers_below l.j (λ j. precedes_in (shapes_of l.txs) j l.index)
