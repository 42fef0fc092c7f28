use Rattle.std.proofs.Common.{rules}
use Rattle.saw_ready.proofs.reset.next_invalid.Goals as goal

pub loop-mate-preserved : goal.loop-mate-preserved
loop-mate-preserved c = search rules
