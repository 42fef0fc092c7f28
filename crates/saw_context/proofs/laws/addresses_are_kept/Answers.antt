use Rattle.std.proofs.Common.{[]}
use Rattle.saw_context.proofs.Coming.{from_left}
use Rattle.saw_context.proofs.laws.addresses_are_kept.Goals as goal

pub returns : goal.returns
returns c = λ processors m batches results are may. from_left processors [] m batches results are may
