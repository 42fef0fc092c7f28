use Rattle.saw_schedule.proofs.Replays.{history-few-reruns}
use Rattle.saw_schedule.proofs.laws.few_reruns.Goals as goal

pub returns : goal.returns
returns c = history-few-reruns
