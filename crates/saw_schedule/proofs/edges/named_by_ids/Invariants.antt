use Rattle.saw_plan.specs.BatchShapes.{shapes_of}
use Rattle.saw_schedule.specs.ByIds.{numbers_under}
use Rattle.saw_schedule.proofs.NamedRows.{AreNamed}
use Rattle.saw_schedule.proofs.edges.named_by_ids.Given as goal

abbrev pub invariant-loop-k : goal.invariant-loop-k
invariant-loop-k l = AreNamed (shapes_of l.txs) l.from.items l.to.items (numbers_under l.numbers) l.k
