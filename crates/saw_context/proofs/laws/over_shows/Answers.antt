use Rattle.saw_context.proofs.OnTop.{value_at-over}
use Rattle.saw_context.proofs.laws.over_shows.Goals as goal

pub returns : goal.returns
returns c = value_at-over
