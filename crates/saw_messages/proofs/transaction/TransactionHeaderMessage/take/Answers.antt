use Rattle.std.proofs.Common.{rules}
use Rattle.saw_messages.proofs.transaction.TransactionHeaderMessage.take.Goals as goal

pub returns-in_err-keep_texts-2-clause-err : goal.returns-in_err-keep_texts-2-clause-err
returns-in_err-keep_texts-2-clause-err c = search rules

pub returns-in_err-keep_text-4-clause-err : goal.returns-in_err-keep_text-4-clause-err
returns-in_err-keep_text-4-clause-err c = search rules

pub returns-clause-ok : goal.returns-clause-ok
returns-clause-ok c = search rules
