use Rattle.saw_messages.proofs.ReceiptsBack.{receipt_is_read, state_change_is_read, event_is_read}
use Rattle.saw_messages.proofs.laws.receipts_are_read_back.Goals as goal

pub returns-clause-receipt : goal.returns-clause-receipt
returns-clause-receipt c = receipt_is_read

pub returns-clause-change : goal.returns-clause-change
returns-clause-change c = state_change_is_read

pub returns-clause-event : goal.returns-clause-event
returns-clause-event c = event_is_read
