use Rattle.std.proofs.Common.{[]}
use Rattle.saw_messages.proofs.block.BlockHeaderMessage.encode.Goals as goal

pub returns : goal.returns
returns c = c.in_ok-write_text-3.ensures _ (c.in_ok-write_bytes.ensures _
    (c.in_ok-write_texts.ensures _ (c.in_ok-write_text-2.ensures _ (c.in_ok-write_text.ensures _ (c.in_ok-write_number.ensures [] c.new-out.ensures.items)))))
