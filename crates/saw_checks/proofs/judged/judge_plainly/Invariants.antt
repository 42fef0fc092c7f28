use Rattle.std.proofs.Common.{take}
use Rattle.saw_checks.specs.Readings.{AreJudged}
use Rattle.saw_checks.proofs.judged.judge_plainly.Given as goal

abbrev pub invariant-loop-batch : goal.invariant-loop-batch
invariant-loop-batch g l = AreJudged (g.V.Verifier.accepts l.verifier) (take l.batch-index l.batches) l.judged.items
