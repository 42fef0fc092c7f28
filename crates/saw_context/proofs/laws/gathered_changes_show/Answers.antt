use Rattle.saw_context.proofs.Gathered.{after-all}
use Rattle.saw_context.proofs.laws.gathered_changes_show.Goals as goal

pub returns : goal.returns
returns c = after-all
