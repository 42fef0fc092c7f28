use Rattle.saw_messages.proofs.BatchesBack.{batch_is_read, batch_header_is_read, batch_list_is_read}
use Rattle.saw_messages.proofs.laws.batches_are_read_back.Goals as goal

pub returns-clause-batch : goal.returns-clause-batch
returns-clause-batch c = batch_is_read

pub returns-clause-header : goal.returns-clause-header
returns-clause-header c = batch_header_is_read

pub returns-clause-list : goal.returns-clause-list
returns-clause-list c = batch_list_is_read
