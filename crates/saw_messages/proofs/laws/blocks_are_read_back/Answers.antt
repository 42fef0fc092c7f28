use Rattle.saw_messages.proofs.BlocksBack.{block_is_read, block_header_is_read}
use Rattle.saw_messages.proofs.laws.blocks_are_read_back.Goals as goal

pub returns-clause-block : goal.returns-clause-block
returns-clause-block c = block_is_read

pub returns-clause-header : goal.returns-clause-header
returns-clause-header c = block_header_is_read
