use Rattle.std.proofs.Common.{take, drop}
use Rattle.saw_checks.specs.Readings.{AreJudged}
use Rattle.saw_publish.specs.Sifting.{IsSifted}
use Rattle.saw_publish.proofs.sift.sift.Given as goal

abbrev pub invariant-loop-batch : goal.invariant-loop-batch
invariant-loop-batch g l = record {
  waiting : AreJudged (g.V.Verifier.accepts l.verifier) (drop l.batch-index l.batches) l.waiting.rest.items;
  sifted : IsSifted (g.V.Verifier.accepts l.verifier) (take l.batch-index l.batches) l.sifted;
}
