use Rattle.std.proofs.Common.{rules}
use Rattle.saw_io.proofs.standard.StdSourceSource.read.Goals as goal

pub returns-in-Err-clause-bytes : goal.returns-in-Err-clause-bytes
returns-in-Err-clause-bytes g c = search rules
