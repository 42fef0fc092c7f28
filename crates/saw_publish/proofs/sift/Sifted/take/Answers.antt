use Rattle.std.proofs.Common.{subst, ◌∙◌}
use Rattle.std.proofs.lemmas.Result.{on_ok_weaker}
use Rattle.saw_checks.specs.Readings.{IsJudged}
use Rattle.saw_receipts.proofs.ReadBatches.{batch_is}
use Rattle.saw_publish.proofs.Putting.{take_bad}
use Rattle.saw_publish.proofs.sift.Sifted.take.Goals as goal

pub returns-in-Bad : goal.returns-in-Bad
returns-in-Bad c =
    on_ok_weaker c.push.result (λ pushed accepts done judged is. take_bad c.args.self.now c.push.new.self c.in-Bad.fault pushed accepts done c.args.batch.now
    (subst (IsJudged accepts c.args.batch.now) c.in-Bad.is judged) is) c.push.ensures.ok

pub returns-in_ok-encode_batch-in-Good : goal.returns-in_ok-encode_batch-in-Good
returns-in_ok-encode_batch-in-Good c =
    on_ok_weaker c.put.result (λ put accepts done judged is.
    let good = subst (IsJudged accepts c.args.batch.now) c.in-Good.is judged in
    put accepts done c.args.batch.now good.0 (batch_is accepts c.args.batch.now c.in-Good.read good.0 good.1)
    (c.from_vec-encoding.ensures ∙ c.in_ok-encode_batch-in-Good.ensures) is) c.put.ensures
