use Rattle.saw_schedule.proofs.Serials.{steps-are-serial}
use Rattle.saw_schedule.proofs.laws.steps_are_serial.Goals as goal

pub returns : goal.returns
returns c = steps-are-serial
