use Rattle.saw_checks.proofs.JudgedLists.{judged_more}
use Rattle.saw_checks.proofs.judged.judge_plainly.Goals as goal

pub loop-batch-preserved : goal.loop-batch-preserved
loop-batch-preserved g c =
    rw c.in_ok-push.ensures.items (judged_more (g.V.Verifier.accepts c.args.verifier.now) c.args.batches.now c.loop-batch.batch-index c.batch-item.result
    c.loop-batch-test.true c.batch-item.is c.loop-batch.judged.items c.in_ok-judge_batch.field-0 c.loop-batch.invariant c.in_ok-judge_batch.ensures)
