use Rattle.std.proofs.Common.{sym, subst}
use Rattle.saw_checks.specs.Readings.{AreJudged}
use Rattle.saw_publish.proofs.sift.sift.Goals as goal

pub loop-batch-init : goal.loop-batch-init
loop-batch-init g c =
    let accepts = g.V.Verifier.accepts c.args.verifier.now in record {
      waiting = subst (AreJudged accepts c.args.batches.now) (sym c.into_iter-waiting.ensures.rest) c.in_ok-check_batches.ensures;
      sifted = c.new-sifted.ensures accepts;
    }
