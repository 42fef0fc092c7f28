use Rattle.saw_messages.proofs.TransactionsBack.{transaction_is_read, transaction_header_is_read}
use Rattle.saw_messages.proofs.laws.transactions_are_read_back.Goals as goal

pub returns-clause-transaction : goal.returns-clause-transaction
returns-clause-transaction c = transaction_is_read

pub returns-clause-header : goal.returns-clause-header
returns-clause-header c = transaction_header_is_read
