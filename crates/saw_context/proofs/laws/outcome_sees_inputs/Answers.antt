use Rattle.saw_context.proofs.Alike.{outcome_of_agree}
use Rattle.saw_context.proofs.laws.outcome_sees_inputs.Goals as goal

pub returns : goal.returns
returns c = outcome_of_agree
