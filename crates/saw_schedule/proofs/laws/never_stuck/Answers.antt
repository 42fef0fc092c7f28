use Rattle.saw_schedule.proofs.Replays.{history-not-stuck}
use Rattle.saw_schedule.proofs.laws.never_stuck.Goals as goal

pub returns : goal.returns
returns c = history-not-stuck
