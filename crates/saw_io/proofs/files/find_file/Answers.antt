use Rattle.std.proofs.Common.{rules}
use Rattle.saw_io.proofs.files.find_file.Goals as goal

pub returns-then-len-limit-clause-told : goal.returns-then-len-limit-clause-told
returns-then-len-limit-clause-told c = search rules
