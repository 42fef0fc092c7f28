use Rattle.saw_context.proofs.Sound.{sound_outcome}
use Rattle.saw_context.proofs.laws.sound_is_outcome.Goals as goal

pub returns : goal.returns
returns c = sound_outcome
