use Rattle.std.proofs.Common.{[]}
use Rattle.saw_context.proofs.Coming.{from_told}
use Rattle.saw_context.proofs.laws.telling_decides.Goals as goal

pub returns : goal.returns
returns c = λ processors m batches results told may. from_told processors [] m batches results told may
