use Rattle.saw_rules.proofs.Unread.{nothing_read}
use Rattle.saw_rules.proofs.laws.nothing_read_refuses_nothing.Goals as goal

pub returns : goal.returns
returns c = nothing_read
