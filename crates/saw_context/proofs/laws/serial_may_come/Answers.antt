use Rattle.std.proofs.Common.{[]}
use Rattle.saw_context.proofs.Coming.{from_comes}
use Rattle.saw_context.proofs.laws.serial_may_come.Goals as goal

pub returns : goal.returns
returns c = λ processors m batches own. from_comes processors own [] m batches
