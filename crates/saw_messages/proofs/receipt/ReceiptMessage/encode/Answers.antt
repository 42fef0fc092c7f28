use Rattle.std.proofs.Common.{[]}
use Rattle.saw_messages.proofs.receipt.ReceiptMessage.encode.Goals as goal

pub returns : goal.returns
returns c = c.in_ok-write_text.ensures _ (c.in_ok-write_all_bytes.ensures _
    (c.in_ok-write_items-2.ensures _ (c.in_ok-write_items.ensures [] c.new-out.ensures.items)))
