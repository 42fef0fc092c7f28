use Rattle.saw_plan.proofs.Whole.{none_dropped}
use Rattle.saw_plan.proofs.laws.nothing_dropped_keeps_all.Goals as goal

pub returns : goal.returns
returns c = none_dropped 0
