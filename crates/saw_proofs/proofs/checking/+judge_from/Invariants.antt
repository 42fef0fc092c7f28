use Rattle.std.proofs.Common.{◌-◌}
use Rattle.saw_proofs.proofs.checking.+judge_from.Given as goal

abbrev pub decreases-judge_from : goal.decreases-judge_from
decreases-judge_from g l = 35 - l.depth
