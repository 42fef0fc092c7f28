use Rattle.std.proofs.Common.{[], ◌∷◌}
use Rattle.saw_plan.specs.StaticRules.{with_transactions}
use Rattle.saw_plan.proofs.Adding.{transaction-too}
use Rattle.saw_plan.proofs.known.BesideKnownIds.add_transaction.Goals as goal

pub returns-clause-ok : goal.returns-clause-ok
returns-clause-ok c = λ there beside. (
  beside.0,
  with_transactions beside.1 (c.args.id.now ∷ []),
  beside.2,
  (beside.3.0, (c.in_ok-add_id.ensures.ok beside.1.transactions beside.3.1).1),
  transaction-too beside.0 beside.1 there c.args.id.now beside.4,
)
