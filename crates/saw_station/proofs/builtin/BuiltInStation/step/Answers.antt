use Rattle.std.proofs.Common.{ap, ◌∙◌}
use Rattle.saw_messages.specs.Reasons.{has_own_reason}
use Rattle.saw_station.specs.Serving.{built_in_own}
use Rattle.saw_station.proofs.builtin.BuiltInStation.step.Goals as goal

pub returns-clause-reason : goal.returns-clause-reason
returns-clause-reason c = ap has_own_reason c.in_ok-next_action.ensures.told ∙ built_in_own c.args.tx.now c.args.talk.now.turns
