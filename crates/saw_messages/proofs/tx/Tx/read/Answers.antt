use Rattle.std.proofs.Common.{rules}
use Rattle.saw_messages.proofs.tx.Tx.read.Goals as goal

pub returns-in_err-header-clause-err : goal.returns-in_err-header-clause-err
returns-in_err-header-clause-err c = search rules

pub invariant_of-result : goal.invariant_of-result
invariant_of-result c = search rules

pub returns-clause-header : goal.returns-clause-header
returns-clause-header c = search rules
