use Rattle.saw_context.proofs.Coming.{told_comes}
use Rattle.saw_context.proofs.laws.may_come_is_told.Goals as goal

pub returns : goal.returns
returns c = told_comes
