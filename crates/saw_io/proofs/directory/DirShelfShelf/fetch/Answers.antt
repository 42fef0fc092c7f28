use Rattle.std.proofs.Common.{rules}
use Rattle.saw_io.proofs.directory.DirShelfShelf.fetch.Goals as goal

pub returns-then-is_failure-clause-cause : goal.returns-then-is_failure-clause-cause
returns-then-is_failure-clause-cause g c = search rules
