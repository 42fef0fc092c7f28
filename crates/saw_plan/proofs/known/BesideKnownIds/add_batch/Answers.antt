use Rattle.saw_plan.specs.StaticRules.{with_batch_id}
use Rattle.saw_plan.proofs.Adding.{batch-too}
use Rattle.saw_plan.proofs.known.BesideKnownIds.add_batch.Goals as goal

pub returns-clause-ok : goal.returns-clause-ok
returns-clause-ok c = λ there beside. (
  beside.0,
  with_batch_id beside.1 c.args.id.now,
  beside.2,
  ((c.in_ok-add_id.ensures.ok beside.1.batches beside.3.0).1, beside.3.1),
  batch-too beside.0 beside.1 there c.args.id.now beside.4,
)
