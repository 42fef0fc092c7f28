use Rattle.saw_context.proofs.Lanes.{lanes_are_serial}
use Rattle.saw_context.proofs.laws.lanes_are_serial.Goals as goal

pub returns : goal.returns
returns c = lanes_are_serial
