use Rattle.std.proofs.Common.{[]}
use Rattle.saw_messages.proofs.block.BlockMessage.encode.Goals as goal

pub returns : goal.returns
returns c = c.in_ok-write_items.ensures _ (c.in_ok-write_text.ensures _ (c.in_ok-write_bytes.ensures [] c.new-out.ensures.items))
