use Rattle.std.proofs.Common.{List, [], ◌∷◌, ◌++◌, ap, ◌∙◌}
use Rattle.saw_messages.specs.TxShapes.{BatchShape}
use Rattle.saw_publish.specs.Judging.{passed_with}
use Rattle.saw_publish.proofs.Judged.{fates_more, stands_next}
use Rattle.saw_publish.proofs.judge.policy_fates.Goals as goal

pub loop-batch-preserved : goal.loop-batch-preserved
loop-batch-preserved g c =
    let m = g.B.Base.entry c.args.parent.now in
    let signer = c.args.signer.now in
    let passed = c.loop-batch.invariant.0 in
    let stands = c.loop-batch.invariant.1 in
    let batch = c.batch-item.result in
    let found = c.in_ok-found.found in (
      passed_with found passed batch,
      stands_next (λ (passed : List BatchShape). g.P.BlockPolicy.stands c.judge_next.new.course m signer passed) passed batch found
          (c.in_ok-found.ensures.passed signer passed stands) (c.in_ok-found.ensures.stays signer passed stands),
      fates_more g.P.BlockPolicy.fault m signer passed c.args.batches.now c.loop-batch.batch-index batch c.loop-batch-test.true c.batch-item.is found
          c.loop-batch.fates _ _ (c.in_ok-found.ensures.fault signer passed stands)
          (c.in_ok-push.ensures.ok ∙ ap (λ fate. c.loop-batch.fates ++ fate ∷ []) c.fate_of.ensures) c.loop-batch.invariant.2,
    )
