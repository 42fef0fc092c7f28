use Rattle.saw_context.proofs.OnTop.{seen_are_over}
use Rattle.saw_context.proofs.laws.seen_is_over.Goals as goal

pub returns : goal.returns
returns c = seen_are_over
