use Rattle.saw_context.proofs.Sound.{sound_comes}
use Rattle.saw_context.proofs.laws.sound_may_come.Goals as goal

pub returns : goal.returns
returns c = sound_comes
