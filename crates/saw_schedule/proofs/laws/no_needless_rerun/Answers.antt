use Rattle.saw_schedule.proofs.Replays.{history-no-needless-rerun}
use Rattle.saw_schedule.proofs.laws.no_needless_rerun.Goals as goal

pub returns : goal.returns
returns c = history-no-needless-rerun
